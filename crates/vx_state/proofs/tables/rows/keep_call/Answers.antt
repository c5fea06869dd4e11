use Rattle.std.proofs.Common.{◌==◌, Some, ap, get_or}
use Rattle.vx_state.proofs.Places.{map-set_first, update_first-none}
use Rattle.vx_state.specs.Rows.{connection_of, asked_call}
use Rattle.vx_state.proofs.tables.rows.keep_call.Goals as goal

pub returns-in-Some : goal.returns-in-Some
returns-in-Some c =
    let old = connection_of (get_or c.args.rows.now c.in-Some.place c.index-rows-place.result) in
    map-set_first connection_of (λ k. k.number == c.args.conn) (λ k. record k { pending = Some (asked_call c.args.asked c.args.text.now c.args.handle.bytes.items) })
    c.args.rows.now c.in-Some.place (cc) c.index-rows-place.result _
    (ap (λ bytes. record old { pending = Some (asked_call c.args.asked bytes c.args.handle.bytes.items) }) c.keep.ensures)

pub returns-in_default : goal.returns-in_default
returns-in_default c =
    update_first-none connection_of (λ k. k.number == c.args.conn) (λ k. record k { pending = Some (asked_call c.args.asked c.args.text.now c.args.handle.bytes.items) })
    c.args.rows.now (cc)
