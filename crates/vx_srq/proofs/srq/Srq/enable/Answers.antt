use Rattle.std.proofs.Common.{◌≤◌, length, arith, ap, sym, subst}
use Rattle.std.proofs.lemmas.List.{length-map}
use Rattle.vx_calls.specs.declared.limits.TheConstants.{LINK_MAX}
use Rattle.vx_rules.specs.SrqState.{SrqState, Enable, IsSound, enable_put}
use Rattle.vx_srq.specs.Shown.{enable_shown}
use Rattle.vx_srq.specs.Inside.{srq_state_of}
use Rattle.vx_srq.proofs.Held.{others_shown}
use Rattle.vx_srq.proofs.Laws.Sound.{sound-with_enable}
use Rattle.vx_srq.proofs.srq.Srq.enable.Goals as goal

pub put-requires-clause-room : goal.put-requires-clause-room
put-requires-clause-room c = omega (arith, others_shown c.self.inside c.args.self.now c.args.lid c.self.view_is, c.requires.room, c.self.invariant.places)

pub invariant_of-self : goal.invariant_of-self
invariant_of-self c =
    let d = srq_state_of c.self.inside in
    let e : Enable = record { link = c.args.lid; connection = c.args.conn; on = c.args.on; handle = c.args.handle.bytes.items } in
    let few : length (enable_put e d.enables) ≤ LINK_MAX =
    omega (
      arith,
      ap length c.put.ensures.rows,
      length-map c.put.new.rows.items enable_shown,
      c.put.ensures.len,
      others_shown c.self.inside c.args.self.now c.args.lid c.self.view_is,
      c.requires.room,
    ) in
    record {
      places = omega (arith, c.self.invariant.places, c.put.ensures.room);
      room = c.self.invariant.room;
      sound = subst (λ es. let k : SrqState = record d { enables = es } in IsSound k) (sym c.put.ensures.rows) (sound-with_enable d e c.self.invariant.sound few);
    }
