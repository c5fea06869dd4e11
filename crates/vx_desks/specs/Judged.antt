-- To be believed.
-- What the rules say of the messages of a session.
use Rattle.std.specs.Prelude.{◌≡◌, ℕ, if◌then◌else◌, List, [], ◌∷◌, map, Option, Some, None}
use Rattle.std.specs.List.{flat_map}
use Rattle.vx_calls.specs.declared.codes.ErrorCode.TheVariants as code
use Rattle.vx_calls.specs.declared.calls.Role.{Role}
use Rattle.vx_calls.specs.declared.calls.Role.TheVariants as role
use Rattle.vx_calls.specs.Call.{Call}
use Rattle.vx_session.specs.Origin.{Origin}
use Rattle.vx_rules.specs.Calls.{proc_of}
use Rattle.vx_rules.specs.Effects.{stopped_reply}
use Rattle.vx_exchange.specs.Meaning.{Meaning, Asks, reply_record}
use Rattle.vx_session.specs.Serving.{Item, IsSessionServed}
use Rattle.vx_policy.specs.declared.made.MadeLink.{MadeLink}
use Rattle.vx_policy.specs.declared.policy.Verdict.{Verdict}
use Rattle.vx_policy.specs.declared.rules.Rule.{Rule}
use Rattle.vx_policy.specs.Judging.{judged}
use Rattle.vx_policy.specs.Targets.{call_target, made_after}
use Rattle.vx_policy.specs.Texts.{deny_line}

-- the rule that denies, where the verdict is to deny
abbrev pub denied_by : Verdict → Option ℕ
denied_by v = if v.allow then None else Some v.rule

-- The rule that denies a message of this peer's session, which made these links: each readable call but the null procedure is judged,
-- by its procedure and by what it is to.
abbrev pub denial : List Rule → (peer : ℕ) → List MadeLink → Meaning → Option ℕ
denial rules peer made (Asks xid call) = denied_by (judged rules peer (proc_of call) (call_target made call))
denial rules peer made _ = None

-- the links that are known behind a message that reached the core, or needs none, and was answered by this record
abbrev pub learned : List MadeLink → Meaning → List ℕ → List MadeLink
learned made (Asks xid call) reply = made_after made call reply
learned made _ reply = made

-- the record of the reply to a denied call: its error is NotAccessible (3), and all else is zero or empty
abbrev pub denied_record : ℕ → Call → List ℕ
denied_record xid call = reply_record xid (stopped_reply call code.NotAccessible [])

-- a message of a session, with its reply, its groups and the calls of the dial; and the rule that denied it, where one did
pub record Judged : Type 0 where
  pub served : Item
  pub denial : Option ℕ

-- the messages that were judged, as those that were served
abbrev pub served : List Judged → List Item
served items = map (λ j. j.served) items

-- a message that no rule denied was served as each session serves it, and the session knows what it made by it
abbrev pub IsAllowed : {B : Type 0} → Origin B → (number conn : ℕ) → List MadeLink → Meaning → Item → List MadeLink → Type 0
IsAllowed g number conn made m item made' =
    IsSessionServed g number conn m item.placed item.calls item.answered.reply × (made' ≡ learned made m item.answered.reply)

-- a call that a rule denied has no group, and its reply says so
abbrev pub IsDenied : List MadeLink → Meaning → Item → List MadeLink → Type 0
IsDenied made (Asks xid call) item made' =
    (item.placed ≡ []) × (item.calls ≡ []) × (item.answered.reply ≡ denied_record xid call) × (made' ≡ made)
IsDenied made _ item made' = ⊥

abbrev pub IsGuarded : {B : Type 0} → Origin B → (number conn : ℕ) → List MadeLink → Meaning → Option ℕ → Item → List MadeLink → Type 0
IsGuarded g number conn made m None item made' = IsAllowed g number conn made m item made'
IsGuarded g number conn made m (Some rule) item made' = IsDenied made m item made'

-- The messages of a session on this connection, where `means` is what each means, by the pass of this number, each by what the rules say
-- of it: the session knew the links `made` before, and knows `made'` then.
abbrev pub Guards : {B : Type 0} → (List ℕ → Role → Meaning) → Origin B → (number conn : ℕ) → List Rule → (peer : ℕ) → List MadeLink → List Judged → List MadeLink → Type 0
Guards means g number conn rules peer made [] made' = made' ≡ made
Guards means g number conn rules peer made (j ∷ later) made' =
    (j.denial ≡ denial rules peer made (means j.served.answered.message role.Core))
    × (mid : List MadeLink) × IsGuarded g number conn made (means j.served.answered.message role.Core) j.denial j.served mid
    × Guards means g number conn rules peer mid later made'

-- the line of a denial
abbrev pub note_of : ℕ → Option ℕ → List ℕ
note_of conn None = []
note_of conn (Some rule) = deny_line conn rule

-- the lines of all denials, in order
abbrev pub notes : ℕ → List Judged → List ℕ
notes conn items = flat_map (λ j. note_of conn j.denial) items
