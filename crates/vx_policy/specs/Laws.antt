-- Laws of the grammar of a policy, and of what its rules say.
use Rattle.std.specs.Prelude.{◌≡◌, ◌+◌, ◌^◌, ◌<◌, ◌==◌, ℕ, true, false, if◌then◌else◌, List, ◌∷◌, ◌++◌, length, drop, Option, Some, None, Ok}
use Rattle.std.specs.List.{All}
use Rattle.vx_calls.specs.declared.calls.Proc.{Proc}
use Rattle.vx_calls.specs.declared.targets.Target.{Target}
use Rattle.vx_calls.specs.declared.codes.ErrorCode.{ErrorCode}
use Rattle.vx_calls.specs.ErrorCode.{error_number}
use Rattle.vx_calls.specs.Target.{target}
use Rattle.vx_calls.specs.Reply as reply
use Rattle.vx_codec.specs.Answered.{results}
use Rattle.vx_policy.specs.declared.made.TheConstants.{HEAD}
use Rattle.vx_policy.specs.declared.rules.Rule.{Rule}
use Rattle.vx_policy.specs.Grammar.{Reads}
use Rattle.vx_policy.specs.Judging.{matches, judged}
use Rattle.vx_policy.specs.Targets.{text_target, link_made, is_done}

-- lines say no two lists of rules
abbrev pub OneReading : Type 0
OneReading = (all : List (List ℕ)) (rules others : List Rule) → Reads all rules → Reads all others → rules ≡ others

-- the first rule that matches decides, by its word and its place
abbrev pub FirstDecides : Type 0
FirstDecides = (front : List Rule) (r : Rule) (behind : List Rule) (peer : ℕ) (asked : Proc) (at : Option Target)
    → All (λ earlier. matches earlier peer asked at ≡ false) front → matches r peer asked at ≡ true
    → judged (front ++ r ∷ behind) peer asked at ≡ record { allow = r.allow; rule = length front + 1 }

-- where none matches the call is denied, by rule 0
abbrev pub NoneDenies : Type 0
NoneDenies = (rules : List Rule) (peer : ℕ) (asked : Proc) (at : Option Target)
    → All (λ r. matches r peer asked at ≡ false) rules → judged rules peer asked at ≡ record { allow = false; rule = 0 }

-- Of a record that has the results of a create_link, the link is read that they tell, where they have no error. A word can have its
-- number.
abbrev pub MadeRead : Type 0
MadeRead = (text : List ℕ) (error : ErrorCode) (lid abort_port max : ℕ) → drop HEAD text ≡ results (reply.CreateLink error lid abort_port max)
    → ((error_number error == 0) ≡ true → lid < 2 ^ 32) → link_made text ≡ (if error_number error == 0 then Some lid else None)

-- of one that has an error alone it is read whether there is none
abbrev pub DoneRead : Type 0
DoneRead = (text : List ℕ) (error : ErrorCode) → drop HEAD text ≡ results (reply.Error error) → is_done text ≡ (error_number error == 0)

-- A device text that names a target on a gateway of some own address names the same to the rules, which know no own address.
abbrev pub NamedAlike : Type 0
NamedAlike = (text : List ℕ) (own : ℕ) (named : Target) → target text own ≡ Ok named → text_target text ≡ Some named
