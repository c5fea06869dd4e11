-- How many connections live behind a history, and that there is room where few do.
use Rattle.std.proofs.Common.{◌≡◌, ◌<◌, ◌≤◌, ◌+◌, ℕ, true, List, [], ◌∷◌, length, Option, Some, None, refl, sym, ap, ◌∙◌, subst, arith}
use Rattle.std.specs.Prelude.{nat_lt, nat_le}
use Rattle.std.proofs.lemmas.Bool.{and_from, lt-ltb, le-leb}
use Rattle.std.proofs.lemmas.Option.{none-some, same_Some}
use Rattle.std.proofs.lemmas.List.{length-map}
use Rattle.std.proofs.lemmas.List.Elements.{All-nil}
use Rattle.std.proofs.lemmas.List.Sums.{count_by-le-length}
use Rattle.vx_calls.specs.declared.calls.Role.{Role}
use Rattle.vx_calls.specs.declared.limits.TheConstants.{ROLE_MAX, CONNECTION_LAST}
use Rattle.vx_rules.specs.Lists.{along}
use Rattle.vx_rules.proofs.Laws.Lists.{along-none}
use Rattle.vx_rules.specs.State.{Connection, Tables, same_role, count_of, has_room}
use Rattle.vx_flow.specs.Event.{Event, Down}
use Rattle.vx_flow.specs.InterleavedState.{InterleavedState, first_interleaved}
use Rattle.vx_flow.specs.InterleavedStep.{interleaved_step}
use Rattle.vx_flow.proofs.Laws.{interleaved-does, interleaved-frame}
use Rattle.vx_group.specs.Groups.{events_of}
use Rattle.vx_session.specs.Counting.{ups, downs}
use Rattle.vx_session.specs.RoomLaws.{CountsLaw, FewLaw, RoomLaw}
use Rattle.vx_session.proofs.Laws.Events.{ups-front, downs-front}
use Rattle.vx_session.proofs.Laws.Numbers.{number_of, Counts, Lives, counts-same, counts-after}

-- a connection that goes lives
interleaved-lives : (e : Event) (f g : InterleavedState) → interleaved_step f e ≡ Some g → Lives f.state.tables e
interleaved-lives (Down conn) f g h = (interleaved-does f g (Down conn) h).step.lives
interleaved-lives _ f g h = tt

-- behind an event that is allowed
interleaved-counts : (e : Event) (f g : InterleavedState) (up down : ℕ) → interleaved_step f e ≡ Some g → Counts f.state.tables up down
    → Counts g.state.tables (up + ups (e ∷ [])) (down + downs (e ∷ []))
interleaved-counts e f g up down h c = counts-after e f.state.tables g.state.tables up down (interleaved-frame f g e h).tables (interleaved-lives e f g h) c

-- and behind a list of them
along-counts : (es : List Event) (f g : InterleavedState) (up down : ℕ) → along interleaved_step (Some f) es ≡ Some g → Counts f.state.tables up down
    → Counts g.state.tables (up + ups es) (down + downs es)
along-counts [] f g up down h c =
    subst (λ (x : InterleavedState). Counts x.state.tables (up + 0) (down + 0)) (same_Some f g h) (counts-same f.state.tables f.state.tables up down refl refl c)
along-counts (e ∷ es) f g up down h c = by (interleaved_step f e) refl h (along-counts es) where
  front : Counts g.state.tables (up + ups (e ∷ []) + ups es) (down + downs (e ∷ []) + downs es) → Counts g.state.tables (up + ups (e ∷ es)) (down + downs (e ∷ es))
  front there =
      subst (λ n. Counts g.state.tables n (down + downs (e ∷ es))) (let more = ups-front e es in omega (arith, more))
      (subst (λ n. Counts g.state.tables (up + ups (e ∷ []) + ups es) n) (let more = downs-front e es in omega (arith, more)) there)

  by : (o : Option InterleavedState) → interleaved_step f e ≡ o → along interleaved_step o es ≡ Some g
      → ((f g : InterleavedState) (up down : ℕ) → along interleaved_step (Some f) es ≡ Some g → Counts f.state.tables up down → Counts g.state.tables (up + ups es) (down + downs es))
      → Counts g.state.tables (up + ups (e ∷ es)) (down + downs (e ∷ es))
  by None is h rest = absurd (none-some g (sym (along-none interleaved_step es) ∙ h))
  by (Some mid) is h rest = front (rest mid g (up + ups (e ∷ [])) (down + downs (e ∷ [])) h (interleaved-counts e f mid up down is c))

-- a gateway as it starts has none
first-counts : (port : ℕ) → Counts (first_interleaved port).state.tables 0 0
first-counts port = record { rise = λ i j d before h. absurd (omega arith); below = All-nil (λ n. n < 1); live = refl; next = refl }

-- behind each history
pub counts-hold : CountsLaw
counts-hold log f stands =
    let events = events_of log in
    let counts = along-counts events (first_interleaved f.state.tables.abort_port) stands.last 0 0 stands.allowed (first-counts f.state.tables.abort_port) in
    let same = ap (λ (x : InterleavedState). x.state.tables) stands.same in
    let tables : Counts f.state.tables (0 + ups events) (0 + downs events) = subst (λ (x : Tables). Counts x (0 + ups events) (0 + downs events)) (sym same) counts in
    let long = length-map f.state.tables.connections number_of in
    record { live = omega (arith, long, tables.live); next = omega (arith, tables.next) }

-- ---- room

-- fewer than 64 live, so fewer than 64 of a role
room-at : (t : Tables) (r : Role) → length t.connections < ROLE_MAX → t.next_connection ≤ CONNECTION_LAST → has_room t r ≡ true
room-at t r few low =
    let count = count_by-le-length (λ (c : Connection). same_role c.role r) t.connections in
    and_from (nat_lt (count_of t r) ROLE_MAX) (nat_le t.next_connection CONNECTION_LAST) (lt-ltb (count_of t r) ROLE_MAX (omega (arith, count, few)))
    (le-leb t.next_connection CONNECTION_LAST low)

pub few-holds : FewLaw
few-holds log f r stands few low =
    let is = counts-hold log f stands in room-at f.state.tables r (omega (arith, is.live, few)) (omega (arith, is.next, low))

pub room-holds : RoomLaw
room-holds log f r stands even low = few-holds log f r stands (omega (arith, even)) low
