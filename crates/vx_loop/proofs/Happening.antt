-- What happens in a gateway, one part after the other.
use Rattle.std.proofs.Common.{◌≡◌, ◌≤◌, ℕ, List, [], ◌∷◌, ◌++◌, Some, refl, sym, ap, ◌∙◌, subst, arith}
use Rattle.std.specs.List.{flat_map}
use Rattle.std.proofs.lemmas.Grind.{flat_map-append}
use Rattle.vx_488.specs.Steps.{Step, Went}
use Rattle.vx_sim.specs.SimState.{SimState}
use Rattle.vx_sim.specs.Laws.{transfers}
use Rattle.vx_rules.specs.Lists.{along}
use Rattle.vx_flow.specs.Event.{Event}
use Rattle.vx_flow.specs.InterleavedState.{InterleavedState, first_interleaved}
use Rattle.vx_flow.specs.InterleavedStep.{interleaved_step}
use Rattle.vx_flow.specs.Poll.{at_moment}
use Rattle.vx_flow.specs.Sound.{IsSound}
use Rattle.vx_flow.proofs.Laws.{later-stands, earlier_law-holds, interleaved-linearizes, linearizes}
use Rattle.vx_rules.proofs.Laws.Lists.{along-append}
use Rattle.vx_loop.specs.Gateway.{Gateway, BusGoes, Happens}
use Rattle.vx_flow.specs.Frames.{moves_by}
use Rattle.vx_loop.specs.Exchanges.{LoopAdds}
use Rattle.vx_loop.specs.Standing.{IsReached}

-- the transfers of one list of steps and then another
pub transfers-append : (xs ys : List Step) → transfers (xs ++ ys) ≡ transfers xs ++ transfers ys
transfers-append [] ys = refl
transfers-append (Went t ∷ xs) ys = ap (λ ts. t ∷ ts) (transfers-append xs ys)
transfers-append (_ ∷ xs) ys = transfers-append xs ys

-- the bus goes through one list and then another
bus-append : (a b c : SimState) (xs ys : List Step) → BusGoes a xs b → BusGoes b ys c → BusGoes a (xs ++ ys) c
bus-append a b c [] ys first second = subst (λ s. BusGoes s ys c) first second
bus-append a b c (x ∷ xs) ys first second = (first.0, first.1, bus-append first.0 b c xs ys first.2 second)

-- nothing happens
pub adds-none : (g : Gateway) → LoopAdds g [] [] g
adds-none g = record { last = g.interleaved; events = refl; late = omega arith; at_now = refl; bus = refl; moves = refl }

-- what happened without a transfer
pub happens-adds : (a b : Gateway) (group : List Event) (steps : List Step) → Happens a group steps b → transfers steps ≡ flat_map moves_by group → LoopAdds a group steps b
happens-adds a b group steps h moves = record { last = b.interleaved; events = h.events; late = omega arith; at_now = refl; bus = h.bus; moves = moves }

-- events that are allowed behind a state at a later moment
pub along-later : (first last : InterleavedState) (f g : InterleavedState) (xs ys : List Event) → along interleaved_step (Some first) xs ≡ Some last → last.state.moment ≤ f.state.moment
    → f ≡ at_moment last f.state.moment → IsSound last → along interleaved_step (Some f) ys ≡ Some g
    → (moment : ℕ) × (along interleaved_step (Some first) (xs ++ ys) ≡ Some (at_moment g moment)) × (moment ≤ g.state.moment)
along-later first last f g xs ys led late at sound goes =
    let more = earlier_law-holds last g f.state.moment ys sound late (ap (λ x. along interleaved_step (Some x) ys) (sym at) ∙ goes) in
    (more.0, along-append interleaved_step (Some first) xs ys ∙ ap (λ o. along interleaved_step o ys) led ∙ more.1, more.2)

-- what holds between events holds behind what happened
adds-sound : (a b : Gateway) (xs : List Event) (ss : List Step) → IsSound a.interleaved → (adds : LoopAdds a xs ss b) → IsSound adds.last
adds-sound a b xs ss sound adds = (linearizes xs a.interleaved adds.last a.interleaved.state.moment sound (omega arith) adds.events).sound

-- one part and then another
pub adds-append : (a b c : Gateway) (xs ys : List Event) (ss ts : List Step) → IsSound a.interleaved → LoopAdds a xs ss b → LoopAdds b ys ts c → LoopAdds a (xs ++ ys) (ss ++ ts) c
adds-append a b c xs ys ss ts sound first second =
    let led = along-later a.interleaved first.last b.interleaved second.last xs ys first.events first.late first.at_now (adds-sound a b xs ss sound first) second.events in
    let late = second.late in
    let early = led.2 in
    record {
      last = at_moment second.last led.0;
      events = led.1;
      late = omega arith;
      at_now = second.at_now;
      bus = bus-append a.bus b.bus c.bus ss ts first.bus second.bus;
      moves =
          transfers-append ss ts ∙ ap (λ ms. ms ++ transfers ts) first.moves ∙ ap (λ ms. flat_map moves_by xs ++ ms) second.moves
          ∙ sym (flat_map-append moves_by xs ys);
    }

-- a state with a history has one behind what happens
pub reached-more : (a b : Gateway) (xs : List Event) (ss : List Step) → IsReached a.interleaved → LoopAdds a xs ss b → IsReached b.interleaved
reached-more a b xs ss r h =
    let sound = (interleaved-linearizes r.abort_port r.history r.last r.allowed).sound in
    let led = along-later (first_interleaved r.abort_port) r.last a.interleaved h.last r.history xs r.allowed r.late r.at_now sound h.events in
    let late = h.late in
    let early = led.2 in
    record {
      abort_port = r.abort_port;
      history = r.history ++ xs;
      last = at_moment h.last led.0;
      allowed = led.1;
      late = omega arith;
      at_now = h.at_now;
    }

pub reached-sound : (f : InterleavedState) → IsReached f → IsSound f
reached-sound f r =
    let sound = (interleaved-linearizes r.abort_port r.history r.last r.allowed).sound in
    let late = r.late in
    subst IsSound (sym r.at_now) (record {
      turn_stands = later-stands r.last.state.tables r.last.before r.last.state.wire r.last.state.moment f.state.moment r.last.turn late sound.turn_stands;
      have_come = λ conn p at. (let came = sound.have_come conn p at in omega arith);
      tables = sound.tables;
    })
