-- To be believed.
-- What reading the text of a policy answers.
use Rattle.std.specs.Prelude.{◌≡◌, ◌≤◌, ◌<◌, ◌+◌, ℕ, ⊤, true, List, [], ◌∷◌, ◌++◌, length, Result, Ok, Err}
use Rattle.vx_text.specs.TextLines.{lines}
use Rattle.vx_policy.specs.declared.policy.TheConstants.{RULES_MAX}
use Rattle.vx_policy.specs.declared.policy.PolicyErr.{PolicyErr}
use Rattle.vx_policy.specs.declared.policy.PolicyErr.TheVariants as err
use Rattle.vx_policy.specs.declared.rules.Rule.{Rule}
use Rattle.vx_policy.specs.declared.lines.Line.{Line}
use Rattle.vx_policy.specs.declared.lines.Line.TheVariants as line
use Rattle.vx_policy.specs.Grammar.{Reads, PolicySays, IsOther, is_skipped}

-- the first line of another form is the one of this number, counted from 1; skipped lines count
pub record IsPolicyBad (all : List (List ℕ)) (number : ℕ) : Type 0 where
  pub front : List (List ℕ)
  pub line : List ℕ
  pub behind : List (List ℕ)
  pub cut : all ≡ front ++ line ∷ behind
  pub rules : List Rule
  pub reads : Reads front rules
  pub other : IsOther line
  pub number_is : number ≡ length front + 1

-- more rules than a policy may have, and no line of another form
pub record IsTooMany (all : List (List ℕ)) : Type 0 where
  pub rules : List Rule
  pub reads : Reads all rules
  pub many : RULES_MAX < length rules

-- what the answer says of the text
abbrev pub IsRead : List ℕ → Result (List Rule) PolicyErr → Type 0
IsRead text (Ok rules) = Reads (lines text) rules × (length rules ≤ RULES_MAX)
IsRead text (Err (err.Form line)) = IsPolicyBad (lines text) line
IsRead text (Err err.TooMany) = IsTooMany (lines text)
IsRead text (Err err.NoMemory) = ⊤

-- what the answer is where the lines say these rules: these, if they aren't too many, or want of memory
abbrev pub AnswersRules : List Rule → Result (List Rule) PolicyErr → Type 0
AnswersRules rules (Ok read) = (read ≡ rules) × (length rules ≤ RULES_MAX)
AnswersRules rules (Err (err.Form line)) = ⊥
AnswersRules rules (Err err.TooMany) = RULES_MAX < length rules
AnswersRules rules (Err err.NoMemory) = ⊤

-- what it is where the first line of another form is this one
abbrev pub AnswersBad : ℕ → Result (List Rule) PolicyErr → Type 0
AnswersBad number (Ok read) = ⊥
AnswersBad number (Err (err.Form line)) = line ≡ number
AnswersBad number (Err err.TooMany) = ⊥
AnswersBad number (Err err.NoMemory) = ⊤

-- what one line is
abbrev pub IsLine : List ℕ → Line → Type 0
IsLine text line.Skipped = is_skipped text ≡ true
IsLine text (line.Says rule) = PolicySays text rule
IsLine text line.Other = IsOther text

-- a rule was kept behind these, where fewer are kept than may be
abbrev pub PolicyAdds : List Rule → Rule → Result Unit PolicyErr → List Rule → Type 0
PolicyAdds old rule (Ok done) new = length old < RULES_MAX → new ≡ old ++ rule ∷ []
PolicyAdds old rule (Err why) new = why ≡ err.NoMemory

-- these lines say rules, which were counted, and kept where there are no more than may be
pub record Counted (all : List (List ℕ)) (kept : List Rule) (count : ℕ) : Type 0 where
  pub rules : List Rule
  pub reads : Reads all rules
  pub count_is : count ≡ length rules
  pub kept_are : count ≤ RULES_MAX → kept ≡ rules

-- why the rules of a text weren't counted
abbrev pub NotCounted : List (List ℕ) → PolicyErr → Type 0
NotCounted all (err.Form line) = IsPolicyBad all line
NotCounted all err.TooMany = ⊥
NotCounted all err.NoMemory = ⊤

-- a reading under way: so many lines are read, and this text is what is left
pub record PolicyUnderWay (text : List ℕ) (kept : List Rule) (count number : ℕ) (rest : List ℕ) : Type 0 where
  pub front : List (List ℕ)
  pub number_is : number ≡ length front
  pub cut : lines text ≡ front ++ lines rest
  pub counted : Counted front kept count
