-- All that is claimed of a list of interleaved events that are allowed, from the laws of each part.
use Rattle.std.proofs.Common.{◌≡◌, ℕ, List, ◌∷◌, ◌++◌, Option, Some, None, refl, sym, ap, ◌∙◌, subst}
use Rattle.std.proofs.lemmas.Option.{none-some}
use Rattle.vx_rules.specs.Lists.{along}
use Rattle.vx_rules.specs.State.{State, first}
use Rattle.vx_rules.specs.Entry.{Entry, Answer}
use Rattle.vx_rules.specs.AtomicStep.{atomic_step}
use Rattle.vx_rules.specs.Legal.{legal_state}
use Rattle.vx_calls.specs.declared.codes.ErrorCode.TheVariants as code
use Rattle.vx_calls.specs.Reply as reply
use Rattle.vx_flow.specs.Event.{Event, Move}
use Rattle.vx_flow.specs.InterleavedState.{InterleavedState, first_interleaved}
use Rattle.vx_flow.specs.InterleavedStep.{interleaved_step}
use Rattle.vx_flow.specs.Linearization.{linearization}
use Rattle.vx_flow.specs.Laws.{interleaved_along}
use Rattle.vx_flow.specs.Claims.{TurnsFree, MovesFreely, EntriesFree, WritesHeard, WritesHeardOnInterface, OverflowCloses, IsQueued, EnablesInOrder, ClaimsLaw}
use Rattle.vx_rules.proofs.Laws.Lists.{along-none, along-append}
use Rattle.vx_rules.proofs.Laws.Histories.{enables_law-holds}
use Rattle.vx_flow.specs.Sound.{Stands, TurnStands}
use Rattle.vx_flow.proofs.Laws.Linearizing.{linearization_law-holds, interleaved-linearizes}
use Rattle.vx_flow.proofs.Laws.TurnFree.{turn_free_law-holds}
use Rattle.vx_flow.proofs.Laws.Hearing.{device-holds, interface-holds}
use Rattle.vx_flow.proofs.Laws.Freely.{entries-hold, moves-hold}
use Rattle.vx_flow.proofs.Laws.Interrupts.{closed_law-holds}
use Rattle.vx_flow.proofs.Laws.Sending.{queued_law-holds}

-- an event of a list that is allowed is allowed in the state behind those before it
allowed-there : {S E : Type 0} (step : S → E → Option S) (start : Option S) (list front behind : List E) (e : E) (s last : S)
    → along step start list ≡ Some last → list ≡ front ++ e ∷ behind → along step start front ≡ Some s → (next : S) × (step s e ≡ Some next)
allowed-there {S = S} step start list front behind e s last h is at =
    by (step s e) refl
    (ap (λ o. along step o (e ∷ behind)) (sym at) ∙ sym (along-append step start front (e ∷ behind)) ∙ ap (along step start) (sym is) ∙ h)
  where
    by : (o : Option S) → step s e ≡ o → along step o behind ≡ Some last → (next : S) × (step s e ≡ Some next)
    by None led rest = absurd (none-some last (sym (along-none step behind) ∙ rest))
    by (Some next) led rest = (next, led)

-- the call and the link of the turn under way are those of what holds between events
turns-free : (abort_port : ℕ) (h : List Event) → TurnsFree abort_port h
turns-free abort_port h front behind f u split at turn =
    let stands : Stands f.state.tables f.before f.state.wire f.state.moment u =
    subst (TurnStands f.state.tables f.before f.state.wire f.state.moment) turn (interleaved-linearizes abort_port front f at).sound.turn_stands in
    record {
      asked = stands.asked;
      link = stands.link;
      call_at = stands.call_at;
      on_link = stands.on_link;
      is_free = turn_free_law-holds abort_port front f u stands.asked stands.link at turn stands.call_at stands.on_link;
    }

moves-free : (abort_port : ℕ) (h : List Event) (g : InterleavedState) → interleaved_along abort_port h ≡ Some g → MovesFreely abort_port h
moves-free abort_port h g is front behind conn moves f split at =
    let next = allowed-there interleaved_step (Some (first_interleaved abort_port)) h front behind (Move conn moves) f g is split at in
    moves-hold abort_port front f next.0 conn moves at next.1

entries-free : (abort_port : ℕ) (history : List Entry) (last : State) → legal_state abort_port history ≡ Some last → EntriesFree abort_port history
entries-free abort_port history last is front behind e s split at =
    let next = allowed-there atomic_step (Some (first abort_port)) history front behind e s last is split at in
    entries-hold abort_port front e s next.0 at next.1

writes-heard : (abort_port : ℕ) (history : List Entry) (last : State) → legal_state abort_port history ≡ Some last → WritesHeard abort_port history
writes-heard abort_port history last is front behind s conn now begun moves failed dialed level size lid io_timeout lock_timeout flags bytes arrival aborted l p secondary split at call_at on target =
    let next = allowed-there atomic_step (Some (first abort_port)) history front behind (Answer conn now begun moves failed dialed level (reply.Write code.Ok size)) s last is split at in
    device-holds abort_port front s next.0 conn now begun moves failed dialed level size lid io_timeout lock_timeout flags bytes arrival aborted l p secondary at call_at on target next.1

writes-on-interface : (abort_port : ℕ) (history : List Entry) (last : State) → legal_state abort_port history ≡ Some last → WritesHeardOnInterface abort_port history
writes-on-interface abort_port history last is front behind s conn now begun moves failed dialed level size lid io_timeout lock_timeout flags bytes arrival aborted l split at call_at on target =
    let next = allowed-there atomic_step (Some (first abort_port)) history front behind (Answer conn now begun moves failed dialed level (reply.Write code.Ok size)) s last is split at in
    interface-holds abort_port front s next.0 conn now begun moves failed dialed level size lid io_timeout lock_timeout flags bytes arrival aborted l at call_at on target next.1

overflow-closes : (abort_port : ℕ) (history : List Entry) → OverflowCloses abort_port history
overflow-closes abort_port history front behind s t now conn c split at h off channel = closed_law-holds s t now conn c off channel h

is-queued : (abort_port : ℕ) (history : List Entry) → IsQueued abort_port history
is-queued abort_port history front behind s conn c split at channel = queued_law-holds abort_port front s conn c at channel

enables-in-order : (abort_port : ℕ) (history : List Entry) → EnablesInOrder abort_port history
enables-in-order abort_port history front behind s split at = enables_law-holds abort_port front s at

pub claims_law-holds : ClaimsLaw
claims_law-holds abort_port h f is =
    let made = linearization_law-holds abort_port h f is in
    record {
      linearized = record { last = f; moment = made.0; allowed = is; legal = made.1; earlier = made.2 };
      turns_free = turns-free abort_port h;
      moves_free = moves-free abort_port h f is;
      entries_free = entries-free abort_port (linearization h) _ made.1;
      heard = writes-heard abort_port (linearization h) _ made.1;
      heard_on_interface = writes-on-interface abort_port (linearization h) _ made.1;
      closes = overflow-closes abort_port (linearization h);
      queued = is-queued abort_port (linearization h);
      enables = enables-in-order abort_port (linearization h);
    }
