-- To be believed.
-- For which bytes taken and given a link to a gateway stands.
use Rattle.std.specs.Prelude.{◌≡◌, ◌≤◌, ◌<◌, ◌+◌, ◌-◌, ◌^◌, ℕ, true, false, is_some, List, [], ◌∷◌, ◌++◌, length, Option, Some, None, ◌⊎◌}
use Rattle.std.specs.List.{list_all}
use Rattle.vx_io_traits.specs.Stands.{Goes}
use Rattle.vx_488.specs.Steps.{Step, Cut}
use Rattle.vx_calls.specs.declared.calls.Role.TheVariants as role
use Rattle.vx_calls.specs.declared.limits.TheConstants.{RECORD_MAX}
use Rattle.vx_calls.specs.Call.{Call}
use Rattle.vx_record.specs.Buffer.{BufState, fresh, fed}
use Rattle.vx_record.specs.declared.Feed.TheVariants.{More, TooLong}
use Rattle.vx_record.specs.declared.Feed.TheVariants as feed
use Rattle.vx_exchange.specs.Meaning.{Asks, Junk, meaning}
use Rattle.vx_rules.specs.State.{pending_at}
use Rattle.vx_flow.specs.Event.{Event, Arrive, Down}
use Rattle.vx_flow.specs.InterleavedState.{InterleavedState, Turn}
use Rattle.vx_flow.specs.Laws.{interleaved_along}
use Rattle.vx_flow.specs.Poll.{at_moment}
use Rattle.vx_flow.specs.Sound.{IsSound}
use Rattle.vx_loop.specs.Gateway.{Gateway, gateway_of, Happens, moments, moments_from}
use Rattle.vx_loop.specs.LoopState.{ServedState, LoopState, IsIdle, IsBeginning}
use Rattle.vx_loop.specs.Exchanges.{Exchange, LoopAdds, IsRecord, Exchanges, of_turn, streams_of, replies_of}
use Rattle.vx_loop.specs.Serving.{lives}

-- no call waits: this has come of the next record
pub record IsLoopOpen (reached : Gateway) (s : ServedState) (part : List ℕ) : Type 0 where
  pub same : gateway_of s.core ≡ reached
  pub answered : pending_at s.core.interleaved.state.tables 1 ≡ None
  pub held : s.buffer ≡ fed (fresh RECORD_MAX) part

-- A call of this xid has come as this record, and was polled so many times: at the moment of its arrival, and then a millisecond
-- later each time. The bus was told these moments alone.
pub record HasCome (reached : Gateway) (stream : List ℕ) (xid polls : ℕ) (after : Gateway) : Type 0 where
  pub message : List ℕ
  pub asked : Call
  pub turn : List Event
  pub steps : List Step
  pub whole : IsRecord stream message
  pub asks : meaning message role.Core ≡ Asks xid asked
  pub adds : LoopAdds reached (Arrive 1 asked reached.interleaved.state.moment ∷ turn) steps after
  pub turn_is : list_all of_turn turn ≡ true
  pub told_is : moments steps ≡ reached.interleaved.state.moment ∷ moments_from reached.interleaved.state.moment polls

-- a call waits, which came as this record to a gateway of which holds what does between events
pub record IsWaiting (reached : Gateway) (s : ServedState) (stream : List ℕ) : Type 0 where
  pub sound : IsSound reached.interleaved
  pub polls : ℕ
  pub come : HasCome reached stream s.xid polls (gateway_of s.core)
  pub last_is : s.core.interleaved.state.moment + 1 ≡ reached.interleaved.state.moment + polls
  pub pending : is_some (pending_at s.core.interleaved.state.tables 1) ≡ true
  pub fresh_is : s.buffer ≡ fresh RECORD_MAX
  pub none_left : s.left ≡ []

-- these bytes end a record that is too long, or that is no call
abbrev pub IsNoCall : BufState → Type 0
IsNoCall b = (b.state ≡ TooLong) ⊎ ((b.state ≡ feed.Whole) × (meaning b.kept role.Core ≡ Junk))

-- the connection ends, and nothing else happens
abbrev pub GoesDown : Gateway → Gateway → Type 0
GoesDown before after = Happens before (Down 1 ∷ []) (Cut ∷ []) after

-- Why the connection has ended, where these bytes had come of the next record, and those were let go.
pub data EndsBy (reached : Gateway) (replied came gone : List ℕ) (now : Gateway) : Type 0 where
  -- it didn't live before
  never : lives reached ≡ false → now ≡ reached → EndsBy reached replied came gone now
  -- a send failed: its bytes ended a record that is too long, or that is no call
  refused : (bytes : List ℕ) → IsNoCall (fed (fresh RECORD_MAX) (came ++ bytes)) → GoesDown reached now → EndsBy reached replied came gone now
  -- bytes came while a call waited
  waited : (xid polls : ℕ) (last : Gateway) → HasCome reached came xid polls last → 0 < length gone → GoesDown last now → EndsBy reached replied came gone now
  -- bytes came while bytes of a reply were left to give
  unread : (given left : List ℕ) → replied ≡ given ++ left → 0 < length left → 0 < length gone → GoesDown reached now → EndsBy reached replied came gone now

-- the connection has ended, and its call with it: what comes is let go
pub record IsEnded (reached : Gateway) (s : ServedState) (replied part : List ℕ) : Type 0 where
  pub came : List ℕ
  pub gone : List ℕ
  pub cut : part ≡ came ++ gone
  pub by_cause : EndsBy reached replied came gone (gateway_of s.core)
  pub down : lives (gateway_of s.core) ≡ false
  pub answered : pending_at s.core.interleaved.state.tables 1 ≡ None
  pub fresh_is : part ≡ [] → s.buffer ≡ fresh RECORD_MAX

-- one of the three
abbrev pub IsAt : Gateway → ServedState → (replied part : List ℕ) → Type 0
IsAt reached s replied part = IsLoopOpen reached s part ⊎ IsWaiting reached s part ⊎ IsEnded reached s replied part

-- since it was idle in this gateway the link took and gave these bytes: those of exchanges, and of one that is under way
pub record Went (start : Gateway) (s : ServedState) (taken given : List ℕ) : Type 0 where
  pub done : List Exchange
  pub reached : Gateway
  pub open_part : List ℕ
  pub exchanged : Exchanges start done reached
  pub taken_is : taken ≡ streams_of done ++ open_part
  pub given_is : given ++ s.left ≡ replies_of done
  pub stands : IsAt reached s (replies_of done) open_part

-- a link without a gateway stands for nothing
abbrev pub Since : Gateway → Option ServedState → List ℕ → List ℕ → Type 0
Since start None taken given = ⊥
Since start (Some s) taken given = Went start s taken given

-- a link stands for the bytes that it took and gave since it was made
abbrev pub LoopStandsFor : LoopState → List ℕ → List ℕ → Type 0
LoopStandsFor l taken given = (start : ServedState) × IsBeginning start × Since (gateway_of start.core) l.served taken given

-- what a call of a link did, whatever it stood for before
abbrev pub LoopGoesOn : LoopState → LoopState → List ℕ → List ℕ → Type 0
LoopGoesOn old new sent got =
    (start : Gateway) (taken given : List ℕ) → Since start old.served taken given → Since start new.served (taken ++ sent) (given ++ got)

-- A link that is looked at from a start on: it goes on from there as the link itself does, and where the start is idle it
-- stands for the bytes that it took and gave since then.
abbrev pub MarkedStands : LoopState → LoopState → List ℕ → List ℕ → Type 0
MarkedStands start l taken given =
    Goes LoopStandsFor start l taken given
    × ((s : ServedState) → start.served ≡ Some s → IsIdle s → Since (gateway_of s.core) l.served taken given)

-- there is a history of the gateway of which this is the state, but for a later moment
pub record IsReached (f : InterleavedState) : Type 0 where
  pub abort_port : ℕ
  pub history : List Event
  pub last : InterleavedState
  pub allowed : interleaved_along abort_port history ≡ Some last
  pub late : last.state.moment ≤ f.state.moment
  pub at_now : f ≡ at_moment last f.state.moment

-- What holds of a gateway that serves a link, between calls of the link. A turn that is under way is connection 1's.
pub record IsLoopKept (s : ServedState) : Type 0 where
  pub limit : s.buffer.limit ≡ RECORD_MAX
  pub waits : s.buffer.state ≡ More
  pub reached : IsReached s.core.interleaved
  pub own : (u : Turn) → s.core.interleaved.turn ≡ Some u → u.connection ≡ 1
  pub calm : pending_at s.core.interleaved.state.tables 1 ≡ None → s.core.interleaved.turn ≡ None

-- these bytes came
pub record TakesTo (old new : ServedState) (bytes : List ℕ) : Type 0 where
  pub kept : IsLoopKept new
  pub went : (start : Gateway) (taken given : List ℕ) → Went start old taken given → Went start new (taken ++ bytes) given

-- no byte came or went, and the connection lives as before
pub record WaitsTo (old new : ServedState) : Type 0 where
  pub kept : IsLoopKept new
  pub went : (start : Gateway) (taken given : List ℕ) → Went start old taken given → Went start new taken given
  pub lives_on : lives (gateway_of new.core) ≡ lives (gateway_of old.core)

-- a call waits at the last moment
pub record IsUnanswered (s : ServedState) : Type 0 where
  pub last : 2 ^ 64 - 1 ≤ s.core.interleaved.state.moment
  pub pending : is_some (pending_at s.core.interleaved.state.tables 1) ≡ true

-- no call waits, and nothing of a reply is left
pub record IsDrained (s : ServedState) : Type 0 where
  pub answered : pending_at s.core.interleaved.state.tables 1 ≡ None
  pub none_left : s.left ≡ []

-- these bytes end a record that is too long, or that is no call
abbrev pub IsLoopRefused : ServedState → List ℕ → Type 0
IsLoopRefused s bytes = IsNoCall (fed s.buffer bytes)

-- the connection lives, no call waits, and nothing of a reply is left
pub record IsLoopReady (s : ServedState) : Type 0 where
  pub alive : lives (gateway_of s.core) ≡ true
  pub drained : IsDrained s

-- the connection lives exactly where it lived before
abbrev pub LivesAlike : Option ServedState → Option ServedState → Type 0
LivesAlike (Some s) (Some t) = lives (gateway_of t.core) ≡ lives (gateway_of s.core)
LivesAlike None None = Unit {0}
LivesAlike _ _ = ⊥

-- where the link is ready these bytes end no record that is too long or no call, and the connection lives on
abbrev pub LivesOn : Option ServedState → Option ServedState → List ℕ → Type 0
LivesOn (Some s) (Some t) bytes = IsLoopReady s → (IsLoopRefused s bytes → ⊥) × (lives (gateway_of t.core) ≡ true)
LivesOn None None bytes = Unit {0}
LivesOn _ _ bytes = ⊥

-- there is a gateway, and the connection doesn't live
abbrev pub HasEnded : Option ServedState → Type 0
HasEnded (Some s) = lives (gateway_of s.core) ≡ false
HasEnded None = ⊥

-- where the link isn't ready the connection doesn't live
abbrev pub EndsEarly : Option ServedState → Option ServedState → Type 0
EndsEarly (Some s) (Some t) = (IsLoopReady s → ⊥) → lives (gateway_of t.core) ≡ false
EndsEarly None None = Unit {0}
EndsEarly _ _ = ⊥
