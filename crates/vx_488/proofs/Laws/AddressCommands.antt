-- What the commands that carry an address leave of the bus.
use Rattle.std.proofs.Common.{◌≡◌, ℕ, ◌+◌, ◌-◌, ◌%◌, ◌≤◌, true, eqb, ltb, leb, List, [], ◌∷◌, Option, Some, None, refl, ap, ◌∙◌, arith}
use Rattle.std.proofs.lemmas.Bool.{leb-true, le-leb, and_parts, and_from, cond-true, cond-false, lt-ltb, le-ltb, ne_eqb}
use Rattle.vx_488.specs.declared.transfers.TheConstants.{ADDRESS_MAX}
use Rattle.vx_488.specs.declared.commands.Command.TheVariants.{Listen, Talk, Secondary}
use Rattle.vx_488.specs.declared.transfers.Addr.{Addr}
use Rattle.vx_488.specs.declared.wire.Pending.TheVariants as pending
use Rattle.vx_488.specs.declared.wire.Wire.{Wire}
use Rattle.vx_488.specs.Address.{primary, secondary, is_secondary, is_bus_address}
use Rattle.vx_488.specs.Listening.{with_address}
use Rattle.vx_488.specs.Command.{command_of_code, command_of}
use Rattle.vx_488.specs.Wire.{settled, on_command, wire_after}
use Rattle.vx_488.specs.Laws.{listen_commands, talk_commands, ListenByteLaw, TalkByteLaw, SecondaryByteLaw, OneListenerLaw, TalkerLaw}
use Rattle.vx_488.proofs.Laws.{with_address-first, without_address-last}

-- the codes of each group, less where the group begins
listen_code : (c p : ℕ) → c ≡ 0x20 + p → p ≤ ADDRESS_MAX → command_of_code c ≡ Listen p
listen_code c p h within =
    cond-false (ltb c 0x20) _ _ (le-ltb c 0x20 (omega arith))
    ∙ cond-true (ltb c 0x3F) _ _ (lt-ltb c 0x3F (omega arith))
    ∙ (let less : c - 0x20 ≡ p = omega arith in ap Listen less)

talk_code : (c p : ℕ) → c ≡ 0x40 + p → p ≤ ADDRESS_MAX → command_of_code c ≡ Talk p
talk_code c p h within =
    cond-false (ltb c 0x20) _ _ (le-ltb c 0x20 (omega arith))
    ∙ cond-false (ltb c 0x3F) _ _ (le-ltb c 0x3F (omega arith))
    ∙ cond-false (eqb c 0x3F) _ _ (ne_eqb c 0x3F (omega arith))
    ∙ cond-true (ltb c 0x5F) _ _ (lt-ltb c 0x5F (omega arith))
    ∙ (let less : c - 0x40 ≡ p = omega arith in ap Talk less)

secondary_code : (c s : ℕ) → c ≡ 0x60 + s → s ≤ ADDRESS_MAX → command_of_code c ≡ Secondary s
secondary_code c s h within =
    cond-false (ltb c 0x20) _ _ (le-ltb c 0x20 (omega arith))
    ∙ cond-false (ltb c 0x3F) _ _ (le-ltb c 0x3F (omega arith))
    ∙ cond-false (eqb c 0x3F) _ _ (ne_eqb c 0x3F (omega arith))
    ∙ cond-false (ltb c 0x5F) _ _ (le-ltb c 0x5F (omega arith))
    ∙ cond-false (eqb c 0x5F) _ _ (ne_eqb c 0x5F (omega arith))
    ∙ cond-true (ltb c 0x7F) _ _ (lt-ltb c 0x7F (omega arith))
    ∙ (let less : c - 0x60 ≡ s = omega arith in ap Secondary less)

-- the command bytes that carry an address
pub listen_byte : ListenByteLaw
listen_byte p h = listen_code ((0x20 + p) % 128) p (omega arith) h

pub talk_byte : TalkByteLaw
talk_byte p h = talk_code ((0x40 + p) % 128) p (omega arith) h

pub secondary_byte : SecondaryByteLaw
secondary_byte s h = secondary_code ((0x60 + s) % 128) s (omega arith) h

-- the bus with these listeners, and with this talker, that an address command leaves
abbrev listening : Wire → ℕ → List Addr → Wire
listening w p xs = record w { listeners = xs; pending = pending.Listen p }

abbrev talking : Wire → ℕ → Addr → Wire
talking w p a = record w { talker = Some a; pending = pending.Talk p }

-- both parts of a bus address are at most 30
within-30 : (a : Addr) → is_bus_address a ≡ true → (a.p ≤ ADDRESS_MAX) × (is_secondary a.s ≡ true)
within-30 a h = let both = and_parts (leb a.p ADDRESS_MAX) (is_secondary a.s) h in (leb-true a.p ADDRESS_MAX both.0, both.1)

is_bus_address-from : (p : ℕ) (s : Option ℕ) → p ≤ ADDRESS_MAX → is_secondary s ≡ true → is_bus_address (record { p = p; s = s }) ≡ true
is_bus_address-from p s h in' = and_from (leb p ADDRESS_MAX) (is_secondary s) (le-leb p ADDRESS_MAX h) in'

-- after UNL, MLA and MSA
listened : (w : Wire) (p : ℕ) (s : Option ℕ) → p ≤ ADDRESS_MAX → is_secondary s ≡ true
    → wire_after w (listen_commands (record { p = p; s = s })) ≡ listening w p (record { p = p; s = s } ∷ [])
listened w p None h in' =
    ap (on_command (settled (record w { listeners = [] }))) (listen_byte p h)
    ∙ ap (listening w p) (with_address-first (primary p) (is_bus_address-from p None h in'))
listened w p (Some s) h in' =
    ap (λ c. on_command (on_command (settled (record w { listeners = [] })) c) (command_of (0x60 + s))) (listen_byte p h)
    ∙ ap (λ xs. on_command (listening w p xs) (command_of (0x60 + s))) (with_address-first (primary p) (is_bus_address-from p None h refl))
    ∙ ap (on_command (listening w p (primary p ∷ []))) (secondary_byte s (leb-true s ADDRESS_MAX in'))
    ∙ ap (λ xs. listening w p (with_address (secondary p s) xs)) (without_address-last (primary p))
    ∙ ap (listening w p) (with_address-first (secondary p s) (is_bus_address-from p (Some s) h in'))

pub one_listener : OneListenerLaw
one_listener w a h = let parts = within-30 a h in listened w a.p a.s parts.0 parts.1

-- after MTA and MSA
talked : (w : Wire) (p : ℕ) (s : Option ℕ) → p ≤ ADDRESS_MAX → is_secondary s ≡ true
    → wire_after w (talk_commands (record { p = p; s = s })) ≡ talking w p (record { p = p; s = s })
talked w p None h in' = ap (on_command w) (talk_byte p h)
talked w p (Some s) h in' =
    ap (λ c. on_command (on_command w c) (command_of (0x60 + s))) (talk_byte p h)
    ∙ ap (on_command (talking w p (primary p))) (secondary_byte s (leb-true s ADDRESS_MAX in'))

pub talker-law : TalkerLaw
talker-law w a h = let parts = within-30 a h in talked w a.p a.s parts.0 parts.1
