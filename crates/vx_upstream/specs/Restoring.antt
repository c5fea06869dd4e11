-- What brings a bus to a wire, whatever it meant before: orders, in turn, each of them one device_docmd (VXI-11.2).
use Rattle.std.specs.Prelude.{◌≡◌, ℕ, ◌+◌, ◌%◌, Bool, true, false, ◌&&◌, ◌==◌, if◌then◌else◌, List, [], ◌∷◌, ◌++◌, map, Option, None, Some}
use Rattle.vx_488.specs.declared.transfers.Addr.{Addr}
use Rattle.vx_488.specs.declared.transfers.Transfer.{Transfer}
use Rattle.vx_488.specs.declared.transfers.Transfer.TheVariants.{Cmd, Ren, Ifc, Own}
use Rattle.vx_488.specs.declared.wire.Wire.{Wire}
use Rattle.vx_488.specs.declared.wire.Pending.{Pending}
use Rattle.vx_488.specs.declared.wire.Pending.TheVariants as pending
use Rattle.vx_488.specs.Address.{address_at}
use Rattle.vx_488.specs.Listening.{has_address}
use Rattle.vx_488.specs.Wire.{first_wire, wire_after}
use Rattle.vx_upstream.specs.declared.orders.Order.{Order}
use Rattle.vx_upstream.specs.declared.orders.Order.TheVariants.{Clear, Address, Remote, Command}

-- the transfer that an order makes
abbrev pub transfer_of : Order → Transfer
transfer_of Clear = Ifc
transfer_of (Address a) = Own a
transfer_of (Remote on) = Ren on
transfer_of (Command b) = Cmd b

abbrev pub transfers_of : List Order → List Transfer
transfers_of orders = map transfer_of orders

-- MSA of a secondary address, where there is one (IEEE 488.1, table of multiline interface messages); a command is one byte
abbrev pub secondary_orders : Option ℕ → List Order
secondary_orders None = []
secondary_orders (Some s) = Command ((0x60 + s) % 256) ∷ []

-- MLA of a device's primary address, from 0x20 on, or MTA, from 0x40 on; and MSA behind it
abbrev pub address_orders : ℕ → Addr → List Order
address_orders group a = Command ((group + a.p) % 256) ∷ secondary_orders a.s

-- the talker
abbrev pub talker_orders : Option Addr → List Order
talker_orders None = []
talker_orders (Some a) = address_orders 0x40 a

-- The listeners, the last one first: so an address without a secondary comes behind those with one, which would take its
-- place.
abbrev pub listener_orders : List Addr → List Order
listener_orders [] = []
listener_orders (a ∷ xs) = listener_orders xs ++ address_orders 0x20 a

-- what of that the address at a place is, among all
abbrev pub orders_at : List Addr → ℕ → List Order
orders_at xs i = if has_address xs (address_at i) then address_orders 0x20 (address_at i) else []

-- SPE or SPD; no secondary address is awaited behind either
abbrev pub poll_byte : Bool → ℕ
poll_byte true = 0x18
poll_byte false = 0x19

-- the first of these addresses with this primary one
abbrev pub first_at : ℕ → List Addr → Option Addr
first_at p [] = None
first_at p (a ∷ xs) = if a.p == p then Some a else first_at p xs

-- the address at a place, where it is one of them and has that primary one; else the one that was found
abbrev pub sooner : List Addr → ℕ → ℕ → Option Addr → Option Addr
sooner xs p i found = if has_address xs (address_at i) && ((address_at i).p == p) then Some (address_at i) else found

abbrev pub listener_again : Option Addr → List Order
listener_again None = []
listener_again (Some a) = address_orders 0x20 a

-- the device to which a further secondary address would belong is addressed once more, last of all
abbrev pub awaited_orders : Pending → Option Addr → List Addr → List Order
awaited_orders pending.Nothing talker listeners = []
awaited_orders (pending.Talk p) talker listeners = talker_orders talker
awaited_orders (pending.Listen p) talker listeners = listener_again (first_at p listeners)

-- interface clear, the own address, remote enable, the talker, the listeners, serial poll mode, and who is awaited
unfoldable pub restoring : Wire → List Order
restoring w =
    Clear ∷ Address w.own ∷ Remote w.ren
    ∷ (talker_orders w.talker ++ (listener_orders w.listeners ++ (Command (poll_byte w.polling) ∷ awaited_orders w.pending w.talker w.listeners)))

-- These orders leave the wire that they were made for: whatever a bus meant before them, and whatever transfers the near one made,
-- as long as it is in charge. No part of a wire is left out.
abbrev pub RestoringLaw : Type 0
RestoringLaw =
    (far : Wire) (ts : List Transfer) → (wire_after first_wire ts).incharge ≡ true
    → wire_after far (transfers_of (restoring (wire_after first_wire ts))) ≡ wire_after first_wire ts
