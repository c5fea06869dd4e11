-- The channel of a dial that came up.
use Rattle.std.proofs.Common.{◌≡◌, ℕ, true, false, List, Some, None, refl, sym, ap, ◌∙◌, subst}
use Rattle.std.proofs.lemmas.Option.{none-some}
use Rattle.vx_calls.specs.Reply.{Reply}
use Rattle.vx_rules.specs.SrqState.{SrqState, Channel, channel_at, new_channel, with_new_channel}
use Rattle.vx_rules.proofs.Laws.Slots.{made-first}
use Rattle.vx_rules.specs.State.{Pending, Tables, pending_at}
use Rattle.vx_rules.specs.Decide.{BusInput}
use Rattle.vx_rules.specs.Sound.{has_slot}
use Rattle.vx_rules.proofs.Laws.Passing.{port_of}
use Rattle.vx_rules.proofs.Laws.Walks.{legal-sound}
use Rattle.vx_flow.specs.Event.{Answer}
use Rattle.vx_flow.specs.InterleavedState.{InterleavedState, before_turn}
use Rattle.vx_flow.specs.InterleavedStep.{bus_input, interleaved_step}
use Rattle.vx_flow.specs.Linearization.{linearization}
use Rattle.vx_flow.specs.Does.{AnsweredBy, ByAbort, ByNoLink, ByCheck, ByBar, ByDialUp, ByDialDown, ByEffect, ByNoRole, ByFault, ByWhole, ByTimeout}
use Rattle.vx_flow.proofs.Laws.{linearization_law-holds, interleaved-does}
use Rattle.vx_group.specs.Groups.{Group, events_of, StandsFor}

-- ---- what an answer does that settles a dial

-- the connection's channel is made
record MakesChannel (d : SrqState) (conn : ℕ) (u : SrqState) : Type 0 where
  program : ℕ
  version : ℕ
  is : u ≡ with_new_channel d conn program version

-- no dial came up where none is told
none-up : {R : Type 0} (o : BusInput) → o.dialed ≡ Some true → o.dialed ≡ None → R
none-up o up none = absurd (none-some true (sym none ∙ up))

-- the line that answers a call whose dial came up makes it
up-makes : (f : InterleavedState) (conn now : ℕ) (p : Pending) (o : BusInput) (told : Reply) (after : Tables) → o.dialed ≡ Some true
    → AnsweredBy f conn now p o told after → MakesChannel f.state.tables.srq_state conn after.srq_state
up-makes f conn now p o told after up (ByAbort marked still stops) = none-up o up still.undialed
up-makes f conn now p o told after up (ByNoLink unmarked dead still stops) = none-up o up still.undialed
up-makes f conn now p o told after up (ByCheck error unmarked lives checked still stops) = none-up o up still.undialed
up-makes f conn now p o told after up (ByBar bar unmarked checked barred waits still stops) = none-up o up still.undialed
up-makes f conn now p o told after up (ByDialUp clear d told_is after_is) =
    record { program = d.program; version = d.version; is = ap (λ (t : Tables). t.srq_state) after_is }
up-makes f conn now p o told after up (ByDialDown clear d told_is after_is) = let down = d.told_so in absurd (cc)
up-makes f conn now p o told after up (ByEffect clear bus dial still given) = none-up o up still.undialed
up-makes f conn now p o told after up (ByNoRole job clear has role still stops) = none-up o up still.undialed
up-makes f conn now p o told after up (ByFault clear broken stops) = none-up o up broken.undialed
up-makes f conn now p o told after up (ByWhole clear done) = none-up o up done.undialed
up-makes f conn now p o told after up (ByTimeout clear overdue stops) = none-up o up overdue.still.undialed

-- ---- the connection has it

-- A state that stands for a history has a port for each connection with a call.
has-port : (f : InterleavedState) (log : List Group) (conn : ℕ) (p : Pending) → StandsFor f log → pending_at f.state.tables conn ≡ Some p → has_slot f.state.tables.srq_state conn ≡ true
has-port f log conn p stands at =
    let port = f.state.tables.abort_port in
    let linearized = linearization_law-holds port (events_of log) stands.last stands.allowed in
    let same : f.state.tables ≡ stands.last.state.tables = ap (λ (x : InterleavedState). x.state.tables) stands.same in
    let sound = legal-sound port (linearization (events_of log)) (before_turn stands.last linearized.0) linearized.1 in
    subst (λ (t : Tables). has_slot t.srq_state conn ≡ true) (sym same)
    (port_of stands.last.state.tables conn p sound (subst (λ (t : Tables). pending_at t conn ≡ Some p) same at))

-- behind the answer of a dial that came up the connection has a channel
pub settled-channel : (f g : InterleavedState) (log : List Group) (conn now : ℕ) (told : Reply) → StandsFor f log → interleaved_step f (Answer conn now false (Some true) false told) ≡ Some g
    → (c : Channel) × (channel_at g.state.tables.srq_state conn ≡ Some c)
settled-channel f g log conn now told stands h =
    let asked = (interleaved-does f g (Answer conn now false (Some true) false told) h).step in
    let makes = up-makes f conn now asked.asked (bus_input f conn false (Some true) false) told asked.after refl asked.line in
    let d = f.state.tables.srq_state in
    let c = new_channel d.next_channel makes.program makes.version in (
      c,
      ap (λ (x : InterleavedState). channel_at x.state.tables.srq_state conn) asked.leads ∙ ap (λ (x : SrqState). channel_at x conn) makes.is
          ∙ made-first conn (Some c) d.slots (has-port f log conn asked.asked stands asked.call_at),
    )
