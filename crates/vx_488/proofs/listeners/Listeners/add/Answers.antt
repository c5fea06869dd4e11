use Rattle.std.proofs.Common.{◌≡◌, true, sym, ap, ◌∙◌, arith}
use Rattle.std.proofs.lemmas.Bool.{cond-true}
use Rattle.vx_488.specs.Address.{is_bus_address}
use Rattle.vx_488.specs.Listening.{with_address}
use Rattle.vx_488.proofs.Places.{address_at-place, flagged-set}
use Rattle.vx_488.proofs.listeners.Listeners.add.Goals as goal

pub returns-then-is_bus_address : goal.returns-then-is_bus_address
returns-then-is_bus_address c =
    let on_bus : is_bus_address c.args.a ≡ true = sym c.is_bus_address.ensures ∙ c.if-is_bus_address.true in
    flagged-set c.args.a 0 c.place.result c.self.inside.flags (omega arith) (address_at-place c.args.a on_bus) (omega arith)
    ∙ sym (cond-true (is_bus_address c.args.a) _ _ on_bus)
    ∙ ap (with_address c.args.a) c.self.view_is
