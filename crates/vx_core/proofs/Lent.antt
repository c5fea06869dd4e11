-- What a poll leaves of a core, with its reply lent.
use Rattle.std.proofs.Common.{◌≡◌, ◌≤◌, ℕ, Bool, List, length, take, Some, max, sym, ap, subst, arith}
use Rattle.std.specs.Option.{option_map}
use Rattle.std.proofs.lemmas.List.{length-take}
use Rattle.vx_calls.specs.declared.limits.TheConstants.{READ_MAX, SLICE_MAX}
use Rattle.vx_calls.specs.Reply.{Reply}
use Rattle.vx_488.specs.Means.{Means}
use Rattle.vx_488.specs.Steps.{Step}
use Rattle.vx_flow.specs.Poll.{begins, ran_of, FitsSlice}
use Rattle.vx_flow.specs.declared.progress.Ran.{Ran}
use Rattle.vx_flow.specs.declared.progress.Ran.TheVariants as ran
use Rattle.vx_core.specs.declared.ended.Ended.{Ended}
use Rattle.vx_core.specs.declared.ended.StoredReply.{StoredReply}
use Rattle.vx_core.specs.declared.ended.StoredReply.TheVariants as given
use Rattle.vx_core.specs.KernelState.{KernelState}
use Rattle.vx_core.specs.CoreState.{CoreState}
use Rattle.vx_core.specs.Shown.{core_of, interleaved_of}
use Rattle.vx_core.specs.Given.{given_reply, given_len, reply_bytes}
use Rattle.vx_core.specs.Ending.{ended_shown}
use Rattle.vx_core.specs.Leaving.{Leaves}
use Rattle.vx_core.specs.declared.polled.Polled.{Polled}
use Rattle.vx_core.specs.Lending.{Shows, PollLeaves}

-- ---- a poll makes few transfers

-- however far a poll went, it made at most as many transfers as a slice has
few-so : (far : Ran) (moved : ℕ) → FitsSlice far moved → moved ≤ SLICE_MAX
few-so ran.Still moved h = omega (arith, h)
few-so ran.Finished moved h = h
few-so ran.Paused moved h = omega (arith, h)
few-so ran.Broken moved h = omega (arith, h)
few-so ran.Sliced moved h = omega (arith, h)

-- ---- what is lent

-- a core leaves what its kernel does
pub core-leaves : {B : Type 0} (means : B → Means) (through : B → Step → B → Type 0) (srq ndac : B → Bool) (old : CoreState B) (k new : KernelState B) (conn now : ℕ)
    (ended told : Ended) (result : Polled) → core_of means k ≡ old → new.last ≡ Some ended
    → new.began ≡ begins (interleaved_of means k) conn (max k.moment now) → Leaves means through srq ndac k conn now ended new → ended ≡ told
    → Shows result (ended_shown told new.room) → PollLeaves means through srq ndac old conn now result (core_of means new)
core-leaves {B} means through srq ndac old k new conn now ended told result view last began leaves is shows =
    let P : CoreState B → Type 0 = λ s. PollLeaves means through srq ndac s conn now result (core_of means new) in
    subst P view (record {
      ending = ended_shown ended new.room;
      last = ap (option_map (λ e. ended_shown e new.room)) last;
      shows = subst (λ e. Shows result (ended_shown e new.room)) (sym is) shows;
      began = began;
      few = few-so (ran_of (ended_shown ended new.room)) (length (means new.bus).moves) leaves.polls.few;
      over = leaves;
    })

take-few : (n : ℕ) (xs : List ℕ) → length (take n xs) ≤ n
take-few n xs = omega (arith, length-take n xs)

-- a reply has no more bytes than it is said to have
given-few : (g : StoredReply) (room : List ℕ) → length (reply_bytes (given_reply g room)) ≤ given_len g
given-few (given.Read error reason len) room = take-few len room
given-few (given.Docmd error len) room = take-few len room
given-few given.Null room = omega arith
given-few (given.CreateLink error lid abort_port max) room = omega arith
given-few (given.Write error size) room = omega arith
given-few (given.Stb error stb) room = omega arith
given-few (given.Error error) room = omega arith

pub lent-fits : (g : StoredReply) (room : List ℕ) (reply : Reply) → reply ≡ given_reply g room → given_len g ≤ READ_MAX → length (reply_bytes reply) ≤ READ_MAX
lent-fits g room reply e within = omega (arith, ap (λ r. length (reply_bytes r)) e, given-few g room, within)
