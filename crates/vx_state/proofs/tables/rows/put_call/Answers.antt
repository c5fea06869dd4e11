use Rattle.std.proofs.Common.{◌==◌, Some, refl}
use Rattle.vx_state.proofs.Places.{map-set_first, update_first-none}
use Rattle.vx_state.specs.Rows.{connection_of, asked_call}
use Rattle.vx_state.proofs.tables.rows.put_call.Goals as goal

pub returns-in-Some : goal.returns-in-Some
returns-in-Some c =
    map-set_first connection_of (λ k. k.number == c.args.conn) (λ k. record k { pending = Some (asked_call c.args.asked c.args.text.bytes.items c.args.handle.bytes.items) })
    c.args.rows.now c.in-Some.place (cc) c.index-rows-place.result _ refl

pub returns-in_default : goal.returns-in_default
returns-in_default c =
    update_first-none connection_of (λ k. k.number == c.args.conn) (λ k. record k { pending = Some (asked_call c.args.asked c.args.text.bytes.items c.args.handle.bytes.items) })
    c.args.rows.now (cc)
