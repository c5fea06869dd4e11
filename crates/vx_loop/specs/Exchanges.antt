-- To be believed.
-- What is exchanged over a link to a gateway: records that come, each with what it makes in the gateway and its reply.
use Rattle.std.specs.Prelude.{◌≡◌, ◌≢◌, ◌≤◌, ℕ, ◌+◌, ◌-◌, Bool, true, false, ◌==◌, List, [], ◌∷◌, ◌++◌, length, take, Option, Some, None}
use Rattle.std.specs.List.{list_all, flat_map}
use Rattle.vx_488.specs.Steps.{Step}
use Rattle.vx_calls.specs.declared.calls.Role.TheVariants as role
use Rattle.vx_calls.specs.declared.limits.TheConstants.{RECORD_MAX}
use Rattle.vx_calls.specs.Call.{Call}
use Rattle.vx_calls.specs.Reply.{Reply}
use Rattle.vx_sim.specs.Laws.{transfers}
use Rattle.vx_record.specs.Fragments.{record_of}
use Rattle.vx_record.specs.Records.{records}
use Rattle.vx_record.specs.Ends.{is_settled}
use Rattle.vx_exchange.specs.Meaning.{Meaning, Junk, Asks, Aborts, meaning, reply_record}
use Rattle.vx_exchange.specs.Meaning as meant
use Rattle.vx_exchange.specs.declared.record.TheConstants.{REPLY_ROOM}
use Rattle.vx_rules.specs.Lists.{along}
use Rattle.vx_flow.specs.Event.{Event, Arrive, Answer, Begin, Move, Dial}
use Rattle.vx_flow.specs.InterleavedState.{InterleavedState}
use Rattle.vx_flow.specs.InterleavedStep.{interleaved_step}
use Rattle.vx_flow.specs.Frames.{moves_by}
use Rattle.vx_flow.specs.Poll.{at_moment}
use Rattle.vx_loop.specs.Gateway.{Gateway, BusGoes, moments, moments_from}

-- What happened in a gateway: these events, of which each is allowed at its place, lead from the one state to the other, but
-- for a later moment; and its bus went through these steps, whose transfers are those of the turns' moves.
pub record LoopAdds (before : Gateway) (group : List Event) (steps : List Step) (after : Gateway) : Type 0 where
  pub last : InterleavedState
  pub events : along interleaved_step (Some before.interleaved) group ≡ Some last
  pub late : last.state.moment ≤ after.interleaved.state.moment
  pub at_now : after.interleaved ≡ at_moment last after.interleaved.state.moment
  pub bus : BusGoes before.bus steps after.bus
  pub moves : transfers steps ≡ flat_map moves_by group

-- a stream that is one whole record, of this message, which ends with its last byte (RFC 5531, section 11)
pub record IsRecord (stream message : List ℕ) : Type 0 where
  pub whole : (records RECORD_MAX stream).records ≡ message ∷ []
  pub shortest : is_settled (records RECORD_MAX (take (length stream - 1) stream)) ≡ false

-- a record that came, with its bytes on the stream and its message; the events and the steps of the bus that it made; and the
-- record of its reply
pub record Exchange : Type 0 where
  pub stream : List ℕ
  pub message : List ℕ
  pub group : List Event
  pub steps : List Step
  pub reply : List ℕ

-- an event between the arrival of the call of connection 1 and its answer
abbrev pub of_turn : Event → Bool
of_turn (Begin conn now) = conn == 1
of_turn (Move conn moves) = conn == 1
of_turn (Dial conn now) = conn == 1
of_turn _ = false

-- the moment at which a call's dial was told to have failed, where it asked for one: that of its last poll
abbrev pub again : Option Bool → ℕ → List ℕ
again None now = []
again (Some up) now = now ∷ []

-- A call came at this moment, its turn went on, and it was answered so at that one. It was polled at the moment of its arrival,
-- and then a millisecond later each time; a dial that it asked for failed. The bus was told these moments alone.
pub record IsLoopAnswered (asked : Call) (told : Reply) (came now : ℕ) (group : List Event) (steps : List Step) : Type 0 where
  pub turn : List Event
  pub turn_is : list_all of_turn turn ≡ true
  pub failed : Bool
  pub dialed : Option Bool
  pub level : Bool
  pub events : group ≡ Arrive 1 asked came ∷ turn ++ Answer 1 now failed dialed level told ∷ []
  pub not_up : dialed ≢ Some true
  pub polls : ℕ
  pub told_is : moments steps ≡ came ∷ moments_from came polls ++ again dialed now
  pub last_is : now + 1 ≡ came + polls

-- the events and the reply of a message: a call comes to the gateway at this moment, and is answered there at that one; the others
-- that have a reply have it without the gateway
abbrev pub Replies : Meaning → (came now : ℕ) → List Event → List Step → List ℕ → Type 0
Replies Junk came now group steps reply = ⊥
Replies (meant.Answered message) came now group steps reply = (group ≡ []) × (steps ≡ []) × (now ≡ came) × (reply ≡ record_of message)
Replies (Asks xid asked) came now group steps reply = (told : Reply) × IsLoopAnswered asked told came now group steps × (reply ≡ reply_record xid told)
Replies (Aborts xid lid) came now group steps reply = ⊥

pub record IsExchange (before : Gateway) (x : Exchange) (after : Gateway) : Type 0 where
  pub whole : IsRecord x.stream x.message
  pub adds : LoopAdds before x.group x.steps after
  pub replies : Replies (meaning x.message role.Core) before.interleaved.state.moment after.interleaved.state.moment x.group x.steps x.reply
  pub short : length x.reply ≤ REPLY_ROOM

-- these, one after the other
abbrev pub Exchanges : Gateway → List Exchange → Gateway → Type 0
Exchanges before [] after = after ≡ before
Exchanges before (x ∷ xs) after = (mid : Gateway) × IsExchange before x mid × Exchanges mid xs after

-- the bytes that came, and those of the replies
abbrev pub streams_of : List Exchange → List ℕ
streams_of xs = flat_map (λ x. x.stream) xs

abbrev pub replies_of : List Exchange → List ℕ
replies_of xs = flat_map (λ x. x.reply) xs
