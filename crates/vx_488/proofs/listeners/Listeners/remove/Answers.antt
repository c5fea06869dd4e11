use Rattle.std.proofs.Common.{◌≡◌, true, false, sym, ap, ◌∙◌, arith}
use Rattle.vx_488.specs.Address.{is_bus_address}
use Rattle.vx_488.specs.Listening.{without_address, flagged}
use Rattle.vx_488.proofs.Places.{address_at-place, flagged-unset, has_address-outside, without_address-none}
use Rattle.vx_488.proofs.listeners.Listeners.remove.Goals as goal

pub returns-then-is_bus_address : goal.returns-then-is_bus_address
returns-then-is_bus_address c =
    let on_bus : is_bus_address c.args.a ≡ true = sym c.is_bus_address.ensures ∙ c.if-is_bus_address.true in
    flagged-unset c.args.a 0 c.place.result c.self.inside.flags (omega arith) (address_at-place c.args.a on_bus) (omega arith)
    ∙ ap (without_address c.args.a) c.self.view_is

pub returns-else-is_bus_address : goal.returns-else-is_bus_address
returns-else-is_bus_address c =
    let outside : is_bus_address c.args.a ≡ false = sym c.is_bus_address.ensures ∙ c.if-is_bus_address.false in
    sym c.self.view_is
    ∙ sym (without_address-none c.args.a (flagged 0 c.self.inside.flags) (has_address-outside c.args.a 0 c.self.inside.flags outside (omega arith)))
    ∙ ap (without_address c.args.a) c.self.view_is
