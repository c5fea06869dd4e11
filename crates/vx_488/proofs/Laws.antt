-- Laws of lists of listeners, of transfers and of bursts, proved: the last are what whoever writes a bus's bursts cites.
pub mod AddressCommands
pub mod Appends
pub mod Puts
pub mod Gets
use Rattle.std.proofs.Common.{◌≡◌, true, [], ◌∷◌, not, cond, ap, refl, ◌++◌, append_assoc, sym, ◌∙◌}
use Rattle.std.proofs.lemmas.Bool.{cond-true}
use Rattle.vx_488.specs.declared.transfers.Addr.{Addr}
use Rattle.vx_488.specs.Address.{is_bus_address}
use Rattle.vx_488.specs.Listening.{with_address, without_address}
use Rattle.vx_488.specs.Flags.{same_address-refl}
use Rattle.vx_488.specs.Wire.{step, wire_after}
use Rattle.vx_488.specs.Laws.{WireAppendsLaw, HeardAppendsLaw}
use Rattle.vx_488.specs.Heard.{heard_of, heard}

-- a bus address put into no list
pub with_address-first : (a : Addr) → is_bus_address a ≡ true → with_address a [] ≡ a ∷ []
with_address-first a h = cond-true (is_bus_address a) _ _ h

-- an address taken out of the list of it alone
pub without_address-last : (a : Addr) → without_address a (a ∷ []) ≡ []
without_address-last a = ap (λ b. cond (not b) (a ∷ []) []) (same_address-refl a)

-- the bus after one list of transfers and then another
pub wire_after-append : WireAppendsLaw
wire_after-append w [] ys = refl
wire_after-append w (t ∷ ts) ys = wire_after-append (step w t) ts ys

-- what an address hears of one list of transfers and then another
pub heard-append : HeardAppendsLaw
heard-append a w [] ys = refl
heard-append a w (t ∷ ts) ys =
    ap (λ rest. heard_of a w t ++ rest) (heard-append a (step w t) ts ys)
    ∙ sym (append_assoc (heard_of a w t) (heard a (step w t) ts) (heard a (wire_after (step w t) ts) ys))
