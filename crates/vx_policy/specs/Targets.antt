-- To be believed.
-- What a call of a session is to.
use Rattle.std.specs.Prelude.{ℕ, ◌==◌, Bool, false, not, if◌then◌else◌, List, [], ◌∷◌, ◌++◌, drop, filter, find, Option, None, Some, option_map, option_and_then}
use Rattle.std.specs.Result.{result_ok}
use Rattle.vx_calls.specs.declared.calls.Proc.TheVariants as proc
use Rattle.vx_calls.specs.declared.targets.Target.{Target}
use Rattle.vx_calls.specs.Target.{target}
use Rattle.vx_calls.specs.Call.{Call}
use Rattle.vx_calls.specs.Call as call
use Rattle.vx_codec.specs.Answered.{Outcome, answered}
use Rattle.vx_codec.specs.Answered as outcome
use Rattle.vx_rules.specs.Calls.{link_named}
use Rattle.vx_policy.specs.declared.made.MadeLink.{MadeLink}
use Rattle.vx_policy.specs.declared.made.TheConstants.{HEAD, NO_OWN}

-- what a device text names, for any device address that a bus has
abbrev pub text_target : List ℕ → Option Target
text_target text = result_ok (target text NO_OWN)

-- what the link of this number is to, where the session made it
abbrev pub target_at : List MadeLink → ℕ → Option Target
target_at made lid = option_map (λ m. m.target) (find (λ m. m.lid == lid) made)

-- what a call is to: what a create_link's device text names; what the link is to that another call names
abbrev pub call_target : List MadeLink → Call → Option Target
call_target made (call.CreateLink client lock lock_timeout device) = text_target device
call_target made c = option_and_then (target_at made) (link_named c)

-- the number of the link in the results of a create_link that has no error
abbrev pub made_by : Option Outcome → Option ℕ
made_by (Some (outcome.CreateLink error lid abort_port max)) = if error == 0 then Some lid else None
made_by _ = None

-- the link that a create_link made, by the record of its reply: its results stand behind the mark and the header
abbrev pub link_made : List ℕ → Option ℕ
link_made reply = made_by (answered proc.CreateLink (drop HEAD reply))

-- results that are an error alone have none
abbrev pub has_none : Option Outcome → Bool
has_none (Some (outcome.Error error)) = error == 0
has_none _ = false

-- a destroy_link was answered without an error
abbrev pub is_done : List ℕ → Bool
is_done reply = has_none (answered proc.DestroyLink (drop HEAD reply))

-- the links with one more, which a create_link made, where its device text names a target
abbrev pub policy_with_link : List MadeLink → Option ℕ → Option Target → List MadeLink
policy_with_link made (Some lid) (Some to) = made ++ record { lid = lid; target = to } ∷ []
policy_with_link made _ _ = made

-- the links that are known behind a call that reached the core and was answered by this record
abbrev pub made_after : List MadeLink → Call → List ℕ → List MadeLink
made_after made (call.CreateLink client lock lock_timeout device) reply = policy_with_link made (link_made reply) (text_target device)
made_after made (call.DestroyLink lid) reply = if is_done reply then filter (λ m. not (m.lid == lid)) made else made
made_after made _ reply = made
