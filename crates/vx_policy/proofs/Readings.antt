-- Lines that are read one after the other, and what lines say.
use Rattle.std.proofs.Common.{◌≡◌, ◌≤◌, ◌<◌, ◌+◌, inl, inr, ℕ, suc, true, List, [], ◌∷◌, ◌++◌, length, Result, Ok, Err, refl, sym, ap, ◌∙◌, subst, append_assoc, append-nil, arith}
use Rattle.std.proofs.lemmas.Bool.{false≢true}
use Rattle.std.proofs.lemmas.List.{length-append}
use Rattle.vx_text.specs.TextLines.{lines}
use Rattle.vx_policy.specs.declared.policy.TheConstants.{RULES_MAX}
use Rattle.vx_policy.specs.declared.policy.PolicyErr.{PolicyErr}
use Rattle.vx_policy.specs.declared.policy.PolicyErr.TheVariants as err
use Rattle.vx_policy.specs.declared.rules.Rule.{Rule}
use Rattle.vx_policy.specs.Grammar.{Reads, PolicySays, IsOther, is_skipped}
use Rattle.vx_policy.specs.Reading.{IsPolicyBad, IsTooMany, IsRead, AnswersRules, AnswersBad, Counted, NotCounted, PolicyUnderWay}
use Rattle.vx_policy.proofs.Spelled.{one-rule, rule-kept}

-- a line to skip in front of lines that say rules
pub skip : (line : List ℕ) (later : List (List ℕ)) (rules : List Rule) → is_skipped line ≡ true → Reads later rules → Reads (line ∷ later) rules
skip line later [] h reads = (h, reads)
skip line later (r ∷ rs) h reads = inl (h, reads)

-- lines that say rules, and more of them
pub reads-goes : (front later : List (List ℕ)) (rules more : List Rule) → Reads front rules → Reads later more → Reads (front ++ later) (rules ++ more)
reads-goes [] later [] more h rest = rest
reads-goes [] later (r ∷ rs) more h rest = absurd h
reads-goes (line ∷ front) later [] more h rest = skip line (front ++ later) more h.0 (reads-goes front later [] more h.1 rest)
reads-goes (line ∷ front) later (r ∷ rs) more (inl h) rest = skip line (front ++ later) ((r ∷ rs) ++ more) h.0 (reads-goes front later (r ∷ rs) more h.1 rest)
reads-goes (line ∷ front) later (r ∷ rs) more (inr h) rest = inr (h.0, reads-goes front later rs more h.1 rest)

-- ---- a reading under way

pub begun : (text : List ℕ) → PolicyUnderWay text [] 0 0 text
begun text = record { front = []; number_is = refl; cut = refl; counted = record { rules = []; reads = tt; count_is = refl; kept_are = λ few. refl } }

-- one more line was read, of these that are left
further : (text rest behind first : List ℕ) (front : List (List ℕ)) → lines text ≡ front ++ lines rest → lines rest ≡ first ∷ lines behind → lines text ≡ (front ++ first ∷ []) ++ lines behind
further text rest behind first front cut is = cut ∙ ap (λ (l : List (List ℕ)). front ++ l) is ∙ sym (append_assoc front (first ∷ []) (lines behind))

one-longer : (front : List (List ℕ)) (first : List ℕ) (number : ℕ) → number ≡ length front → number + 1 ≡ length (front ++ first ∷ [])
one-longer front first number is = let len = length-append front (first ∷ []) in omega arith

pub skipped : (text rest behind first : List ℕ) (kept : List Rule) (count number : ℕ) → PolicyUnderWay text kept count number rest → lines rest ≡ first ∷ lines behind
    → is_skipped first ≡ true → PolicyUnderWay text kept count (number + 1) behind
skipped text rest behind first kept count number u is h =
    let c = u.counted in
    record {
      front = u.front ++ first ∷ [];
      number_is = one-longer u.front first number u.number_is;
      cut = further text rest behind first u.front u.cut is;
      counted = record {
        rules = c.rules;
        reads = subst (Reads (u.front ++ first ∷ [])) (append-nil c.rules) (reads-goes u.front (first ∷ []) c.rules [] c.reads (h, tt));
        count_is = c.count_is;
        kept_are = c.kept_are;
      };
    }

pub said : (text rest behind first : List ℕ) (kept new : List Rule) (count number : ℕ) (rule : Rule) → PolicyUnderWay text kept count number rest
    → lines rest ≡ first ∷ lines behind → PolicySays first rule → (length kept < RULES_MAX → new ≡ kept ++ rule ∷ []) → PolicyUnderWay text new (count + 1) (number + 1) behind
said text rest behind first kept new count number rule u is says adds =
    let c = u.counted in
    let len = length-append c.rules (rule ∷ []) in
    let count_is = c.count_is in
    record {
      front = u.front ++ first ∷ [];
      number_is = one-longer u.front first number u.number_is;
      cut = further text rest behind first u.front u.cut is;
      counted = record {
        rules = c.rules ++ rule ∷ [];
        reads = reads-goes u.front (first ∷ []) c.rules (rule ∷ []) c.reads (inr (says, tt));
        count_is = omega arith;
        kept_are = λ few.
            let same : kept ≡ c.rules = c.kept_are (omega arith) in
            let short : length kept ≡ length c.rules = ap length same in
            adds (omega arith) ∙ ap (λ (l : List Rule). l ++ rule ∷ []) same;
      };
    }

pub bad : (text rest behind first : List ℕ) (kept : List Rule) (count number : ℕ) → PolicyUnderWay text kept count number rest → lines rest ≡ first ∷ lines behind → IsOther first
    → IsPolicyBad (lines text) (number + 1)
bad text rest behind first kept count number u is other =
    let n = u.number_is in
    record {
      front = u.front;
      line = first;
      behind = lines behind;
      cut = u.cut ∙ ap (λ (l : List (List ℕ)). u.front ++ l) is;
      rules = u.counted.rules;
      reads = u.counted.reads;
      other = other;
      number_is = omega arith;
    }

pub done : (text rest : List ℕ) (kept : List Rule) (count number : ℕ) → PolicyUnderWay text kept count number rest → rest ≡ [] → Counted (lines text) kept count
done text rest kept count number u e =
    let c = u.counted in
    let all : lines text ≡ u.front = u.cut ∙ ap (λ (r : List ℕ). u.front ++ lines r) e ∙ append-nil u.front in
    record { rules = c.rules; reads = subst (λ (l : List (List ℕ)). Reads l c.rules) (sym all) c.reads; count_is = c.count_is; kept_are = c.kept_are }

-- ---- one reading

not-both : (line : List ℕ) (r : Rule) → is_skipped line ≡ true → PolicySays line r → ⊥
not-both line r skips says = false≢true (sym (rule-kept r line says) ∙ skips)

-- lines say no two lists of rules
pub one-reading : (all : List (List ℕ)) (rules others : List Rule) → Reads all rules → Reads all others → rules ≡ others
one-reading [] [] [] a b = refl
one-reading [] [] (s ∷ ss) a b = absurd b
one-reading [] (r ∷ rs) others a b = absurd a
one-reading (line ∷ later) [] [] a b = refl
one-reading (line ∷ later) [] (s ∷ ss) a (inl b) = one-reading later [] (s ∷ ss) a.1 b.1
one-reading (line ∷ later) [] (s ∷ ss) a (inr b) = absurd (not-both line s a.0 b.0)
one-reading (line ∷ later) (r ∷ rs) [] (inl a) b = one-reading later (r ∷ rs) [] a.1 b.1
one-reading (line ∷ later) (r ∷ rs) [] (inr a) b = absurd (not-both line r b.0 a.0)
one-reading (line ∷ later) (r ∷ rs) (s ∷ ss) (inl a) (inl b) = one-reading later (r ∷ rs) (s ∷ ss) a.1 b.1
one-reading (line ∷ later) (r ∷ rs) (s ∷ ss) (inl a) (inr b) = absurd (not-both line s a.0 b.0)
one-reading (line ∷ later) (r ∷ rs) (s ∷ ss) (inr a) (inl b) = absurd (not-both line r b.0 a.0)
one-reading (line ∷ later) (r ∷ rs) (s ∷ ss) (inr a) (inr b) =
    ap (λ (x : Rule). x ∷ rs) (one-rule r s line a.0 b.0) ∙ ap (λ (xs : List Rule). s ∷ xs) (one-reading later rs ss a.1 b.1)

-- lines that say rules have none of another form
pub all-good : (all front : List (List ℕ)) (line : List ℕ) (behind : List (List ℕ)) (rules : List Rule) → Reads all rules → all ≡ front ++ line ∷ behind → IsOther line → ⊥
all-good all front line behind rules reads cut other = within front rules (subst (λ (l : List (List ℕ)). Reads l rules) cut reads)
  where
    within : (front : List (List ℕ)) (rules : List Rule) → Reads (front ++ line ∷ behind) rules → ⊥
    within [] [] h = false≢true (sym other.kept ∙ h.0)
    within [] (r ∷ rs) (inl h) = false≢true (sym other.kept ∙ h.0)
    within [] (r ∷ rs) (inr h) = other.other r h.0
    within (first ∷ front) [] h = within front [] h.1
    within (first ∷ front) (r ∷ rs) (inl h) = within front (r ∷ rs) h.1
    within (first ∷ front) (r ∷ rs) (inr h) = within front rs h.1

-- the first line of another form is one line
pub one-bad : (all : List (List ℕ)) (n m : ℕ) → IsPolicyBad all n → IsPolicyBad all m → n ≡ m
one-bad all n m a b =
    let na = a.number_is in
    let nb = b.number_is in
    let same : length a.front ≡ length b.front =
    lengths a.front b.front a.line b.line a.behind b.behind a.rules b.rules (sym a.cut ∙ b.cut) a.reads b.reads a.other b.other in
    omega arith
  where
    lengths : (f g : List (List ℕ)) (x y : List ℕ) (s t : List (List ℕ)) (rs qs : List Rule) → f ++ x ∷ s ≡ g ++ y ∷ t → Reads f rs → Reads g qs → IsOther x → IsOther y
        → length f ≡ length g
    lengths [] [] x y s t rs qs e p q ox oy = refl
    lengths [] (z ∷ g) x y s t rs qs e p q ox oy =
        let same : x ≡ z = cc in
        absurd (all-good (z ∷ g) [] z g qs q refl (subst IsOther same ox))
    lengths (z ∷ f) [] x y s t rs qs e p q ox oy =
        let same : y ≡ z = cc in
        absurd (all-good (z ∷ f) [] z f rs p refl (subst IsOther same oy))
    lengths (z ∷ f) (w ∷ g) x y s t rs qs e p q ox oy =
        let same : f ++ x ∷ s ≡ g ++ y ∷ t = cc in
        ap suc (lengths f g x y s t (rest f z rs p).0 (rest g w qs q).0 same (rest f z rs p).1 (rest g w qs q).1 ox oy)
      where
        rest : (f : List (List ℕ)) (z : List ℕ) (rs : List Rule) → Reads (z ∷ f) rs → (more : List Rule) × Reads f more
        rest f z [] h = ([], h.1)
        rest f z (r ∷ rs) (inl h) = (r ∷ rs, h.1)
        rest f z (r ∷ rs) (inr h) = (rs, h.1)

-- ---- what an answer that meets the text says to who knows its reading

pub answers-rules : (text : List ℕ) (rules : List Rule) (answer : Result (List Rule) PolicyErr) → IsRead text answer → Reads (lines text) rules → AnswersRules rules answer
answers-rules text rules (Ok read) h reads =
    let same = one-reading (lines text) read rules h.0 reads in
    (same, subst (λ (l : List Rule). length l ≤ RULES_MAX) same h.1)
answers-rules text rules (Err (err.Form line)) h reads = all-good (lines text) h.front h.line h.behind rules reads h.cut h.other
answers-rules text rules (Err err.TooMany) h reads =
    subst (λ (l : List Rule). RULES_MAX < length l) (one-reading (lines text) h.rules rules h.reads reads) h.many
answers-rules text rules (Err err.NoMemory) h reads = tt

pub answers-bad : (text : List ℕ) (number : ℕ) (answer : Result (List Rule) PolicyErr) → IsRead text answer → IsPolicyBad (lines text) number → AnswersBad number answer
answers-bad text number (Ok read) h b = all-good (lines text) b.front b.line b.behind read h.0 b.cut b.other
answers-bad text number (Err (err.Form line)) h b = one-bad (lines text) line number h b
answers-bad text number (Err err.TooMany) h b = all-good (lines text) b.front b.line b.behind h.rules h.reads b.cut b.other
answers-bad text number (Err err.NoMemory) h b = tt

-- what was counted is the reading
pub few-read : (text : List ℕ) (kept : List Rule) (count : ℕ) → Counted (lines text) kept count → count ≤ RULES_MAX → Reads (lines text) kept × (length kept ≤ RULES_MAX)
few-read text kept count c few =
    let same = c.kept_are few in
    let short : length kept ≡ length c.rules = ap length same in
    let count_is = c.count_is in
    (subst (Reads (lines text)) (sym same) c.reads, omega arith)

pub many-read : (text : List ℕ) (kept : List Rule) (count : ℕ) → Counted (lines text) kept count → RULES_MAX < count → IsTooMany (lines text)
many-read text kept count c many =
    let count_is = c.count_is in
    record { rules = c.rules; reads = c.reads; many = omega arith }

-- rules that weren't counted aren't read
pub not-read : (text : List ℕ) (why : PolicyErr) → NotCounted (lines text) why → IsRead text (Err why)
not-read text (err.Form line) h = h
not-read text err.TooMany h = absurd h
not-read text err.NoMemory h = tt
