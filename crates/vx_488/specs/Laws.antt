-- Laws of lists of transfers: what holds of one list and then another, and what addressing a device leaves.
use Rattle.std.specs.Prelude.{◌≡◌, ◌≤◌, ℕ, ◌+◌, true, List, [], ◌∷◌, ◌++◌, Option, Some, None}
use Rattle.vx_488.specs.declared.transfers.TheConstants.{ADDRESS_MAX}
use Rattle.vx_488.specs.declared.transfers.Addr.{Addr}
use Rattle.vx_488.specs.declared.transfers.Transfer.{Transfer}
use Rattle.vx_488.specs.declared.transfers.Transfer.TheVariants.{Cmd}
use Rattle.vx_488.specs.declared.commands.Command.TheVariants.{Listen, Talk, Secondary}
use Rattle.vx_488.specs.declared.wire.Pending.TheVariants as pending
use Rattle.vx_488.specs.declared.wire.Wire.{Wire}
use Rattle.vx_488.specs.Address.{is_bus_address}
use Rattle.vx_488.specs.Command.{command_of}
use Rattle.vx_488.specs.Wire.{wire_after}
use Rattle.vx_488.specs.Heard.{reached, heard}

-- the bus after two lists is that after the second, from where the first left it
abbrev pub WireAppendsLaw : Type 0
WireAppendsLaw = (w : Wire) (xs ys : List Transfer) → wire_after w (xs ++ ys) ≡ wire_after (wire_after w xs) ys

-- two lists reach whom the first reaches, and then whom the second does
abbrev pub ReachedAppendsLaw : Type 0
ReachedAppendsLaw = (w : Wire) (xs ys : List Transfer) → reached w (xs ++ ys) ≡ reached w xs ++ reached (wire_after w xs) ys

-- of two lists an address hears what it hears of the first, and then of the second
abbrev pub HeardAppendsLaw : Type 0
HeardAppendsLaw = (a : Addr) (w : Wire) (xs ys : List Transfer) → heard a w (xs ++ ys) ≡ heard a w xs ++ heard a (wire_after w xs) ys

-- the command bytes that carry an address (IEEE 488.1, table of multiline interface messages)
abbrev pub ListenByteLaw : Type 0
ListenByteLaw = (p : ℕ) → p ≤ ADDRESS_MAX → command_of (0x20 + p) ≡ Listen p

abbrev pub TalkByteLaw : Type 0
TalkByteLaw = (p : ℕ) → p ≤ ADDRESS_MAX → command_of (0x40 + p) ≡ Talk p

abbrev pub SecondaryByteLaw : Type 0
SecondaryByteLaw = (s : ℕ) → s ≤ ADDRESS_MAX → command_of (0x60 + s) ≡ Secondary s

-- the command of a device's secondary address, where it has one
abbrev pub secondary_command : Option ℕ → List Transfer
secondary_command None = []
secondary_command (Some s) = Cmd (0x60 + s) ∷ []

-- the commands that make a device the one listener: UNL, MLA and MSA; and the talker: MTA and MSA
abbrev pub listen_commands : Addr → List Transfer
listen_commands a = Cmd 0x3F ∷ Cmd (0x20 + a.p) ∷ secondary_command a.s

abbrev pub talk_commands : Addr → List Transfer
talk_commands a = Cmd (0x40 + a.p) ∷ secondary_command a.s

-- after them the listeners are that device alone, and the talker is that device; a further secondary address would be
-- its primary's, and all else is as before
abbrev pub OneListenerLaw : Type 0
OneListenerLaw =
    (w : Wire) (a : Addr) → is_bus_address a ≡ true → wire_after w (listen_commands a) ≡ record w { listeners = a ∷ []; pending = pending.Listen a.p }

abbrev pub TalkerLaw : Type 0
TalkerLaw =
    (w : Wire) (a : Addr) → is_bus_address a ≡ true → wire_after w (talk_commands a) ≡ record w { talker = Some a; pending = pending.Talk a.p }
