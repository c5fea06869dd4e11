-- Whom a list that keeps to a plan reaches, and what is heard of a write.
use Rattle.std.proofs.Common.{◌≡◌, ◌≢◌, ◌≤◌, ◌+◌, ℕ, Bool, true, false, cond, List, [], ◌∷◌, ◌++◌, map, append-nil, Option, Some, None, refl, sym, ap, ◌∙◌, subst}
use Rattle.std.specs.Prelude.{if◌then◌else◌}
use Rattle.std.specs.Option.{option_to_list}
use Rattle.std.specs.List.{All}
use Rattle.std.proofs.lemmas.Bool.{and_from, le-leb}
use Rattle.std.proofs.lemmas.List.Elements.{All-nil, All-cons, All-head, All-tail}
use Rattle.vx_488.specs.declared.transfers.TheConstants.{ADDRESS_MAX}
use Rattle.vx_488.specs.declared.transfers.Addr.{Addr}
use Rattle.vx_488.specs.declared.transfers.Transfer.{Transfer}
use Rattle.vx_488.specs.declared.transfers.Transfer.TheVariants as transfer
use Rattle.vx_488.specs.declared.commands.Command.{Command}
use Rattle.vx_488.specs.declared.commands.Command.TheVariants.{Listen, Talk, Secondary}
use Rattle.vx_488.specs.declared.wire.Wire.{Wire}
use Rattle.vx_488.specs.Address.{primary, secondary, is_secondary, is_bus_address}
use Rattle.vx_488.specs.Listening.{has_address, with_address, without_address}
use Rattle.vx_488.specs.Command.{command_of}
use Rattle.vx_488.specs.Wire.{on_command, step, wire_after}
use Rattle.vx_488.specs.Heard.{Byte, reached_by_command, reached, heard}
use Rattle.vx_488.proofs.Laws.{with_address-first, without_address-last}
use Rattle.vx_488.proofs.Laws.AddressCommands.{listen_byte, talk_byte, secondary_byte}
use Rattle.vx_488.proofs.Laws.Appends.{reached-append}
use Rattle.vx_plan.specs.Plan.{This, Plan, Stand, Whole, Part, Off, stand}
use Rattle.vx_plan.specs.Whole as whole
use Rattle.vx_plan.specs.Whole.{Fill, IsWhole, IsPart}
use Rattle.vx_plan.specs.Tasks.{unl, spd, mla, mta, msa, listener, talker, ended_poll, puts, just, IsSecondaryPlain}
use Rattle.vx_plan.proofs.Laws.{whole-law, part-law}
use Rattle.vx_flow.specs.Laws.{marked_bytes}

-- ---- lists that keep to a plan

-- such a list can be ended
pub ended : (p : Plan) (ts : List Transfer) → stand p ts ≢ Off → (more : List Transfer) × IsWhole p (ts ++ more)
ended p ts on = by (stand p ts) refl where
  by : (s : Stand) → stand p ts ≡ s → (more : List Transfer) × IsWhole p (ts ++ more)
  by Whole e = ([], subst (IsWhole p) (sym (append-nil ts)) ((whole-law p ts).0 e))
  by Part e = let part = (part-law p ts).0 e in (part.0, part.2)
  by Off e = absurd (on e)

-- of transfers alone there is one whole list
pub fill-this : (xs ts : List Transfer) → Fill (map This xs) ts → ts ≡ xs
fill-this [] [] f = refl
fill-this [] (t ∷ ts) f = absurd f
fill-this (x ∷ xs) [] f = absurd f
fill-this (x ∷ xs) (t ∷ ts) f = ap (λ y. y ∷ ts) f.0 ∙ ap (λ ys. x ∷ ys) (fill-this xs ts f.1)

pub whole-just : (xs ts : List Transfer) → IsWhole (just xs) ts → ts ≡ xs
whole-just xs ts w = w.2 ∙ ap (λ r. w.0 ++ r) w.4 ∙ append-nil w.0 ∙ fill-this xs w.0 w.3

-- a list that keeps to them begins them
pub just-front : (xs ts : List Transfer) → stand (just xs) ts ≢ Off → (more : List Transfer) × (ts ++ more ≡ xs)
just-front xs ts on = let end = ended (just xs) ts on in (end.0, whole-just xs (ts ++ end.0) end.1)

-- ---- whom lists reach

all-front : (P : Addr → Type 0) (xs ys : List Addr) → All P (xs ++ ys) → All P xs
all-front P [] ys h = All-nil P
all-front P (x ∷ xs) ys h = All-cons P x xs (All-head P x (xs ++ ys) h) (all-front P xs ys (All-tail P x (xs ++ ys) h))

-- the front of a list reaches only whom the list does
pub reached-front : (P : Addr → Type 0) (w : Wire) (ts more : List Transfer) → All P (reached w (ts ++ more)) → All P (reached w ts)
reached-front P w ts more h = all-front P (reached w ts) (reached (wire_after w ts) more) (subst (All P) (reached-append w ts more) h)

-- an address at this primary
abbrev pub At : ℕ → Addr → Type 0
At p a = a.p ≡ p

-- a command that reaches nobody, and what comes behind it
pub quiet : (P : Addr → Type 0) (w : Wire) (b : ℕ) (c : Command) (ts : List Transfer) → command_of b ≡ c → reached_by_command w c ≡ [] → All P (reached (on_command w c) ts)
    → All P (reached w (transfer.Cmd b ∷ ts))
quiet P w b c ts e none rest =
    subst (λ d. All P (reached_by_command w d ++ reached (on_command w d) ts)) (sym e)
    (subst (λ xs. All P (xs ++ reached (on_command w c) ts)) (sym none) rest)

secondary-plain : (s : Option ℕ) → IsSecondaryPlain s → is_secondary s ≡ true
secondary-plain None h = refl
secondary-plain (Some s) h = le-leb s ADDRESS_MAX h

bus-address : (p : ℕ) (s : Option ℕ) → p ≤ ADDRESS_MAX → IsSecondaryPlain s → is_bus_address (record { p = p; s = s }) ≡ true
bus-address p s h plain = and_from _ _ (le-leb p ADDRESS_MAX h) (secondary-plain s plain)

-- where nobody listens, a device that is addressed listens alone
listens-first : (p : ℕ) (xs : List Addr) → p ≤ ADDRESS_MAX → xs ≡ [] → with_address (primary p) xs ≡ primary p ∷ []
listens-first p xs h empty = ap (with_address (primary p)) empty ∙ with_address-first (primary p) (bus-address p None h tt)

listens-second : (p s : ℕ) (xs : List Addr) → p ≤ ADDRESS_MAX → s ≤ ADDRESS_MAX → xs ≡ primary p ∷ [] → with_address (secondary p s) (without_address (primary p) xs) ≡ secondary p s ∷ []
listens-second p s xs h plain one =
    ap (λ ys. with_address (secondary p s) (without_address (primary p) ys)) one
    ∙ ap (with_address (secondary p s)) (without_address-last (primary p))
    ∙ with_address-first (secondary p s) (bus-address p (Some s) h plain)

-- a device is made the one listener, and then more is done
pub listener-goes : (P : Addr → Type 0) (w : Wire) (p : ℕ) (s : Option ℕ) (ts : List Transfer) → p ≤ ADDRESS_MAX → IsSecondaryPlain s → w.listeners ≡ []
    → ((v : Wire) → v.listeners ≡ record { p = p; s = s } ∷ [] → All P (reached v ts)) → All P (reached w (listener p s ++ ts))
listener-goes P w p None ts h plain empty rest =
    quiet P w (0x20 + p) (Listen p) ts (listen_byte p h) refl (rest (on_command w (Listen p)) (listens-first p w.listeners h empty))
listener-goes P w p (Some s) ts h plain empty rest =
    let v = on_command w (Listen p) in
    quiet P w (0x20 + p) (Listen p) (msa s ∷ ts) (listen_byte p h) refl
    (quiet P v (0x60 + s) (Secondary s) ts (secondary_byte s plain) refl
    (rest (on_command v (Secondary s)) (listens-second p s v.listeners h plain (listens-first p w.listeners h empty))))

-- or the talker
pub talker-goes : (P : Addr → Type 0) (w : Wire) (p : ℕ) (s : Option ℕ) (ts : List Transfer) → p ≤ ADDRESS_MAX → IsSecondaryPlain s
    → ((v : Wire) → v.talker ≡ Some (record { p = p; s = s }) → All P (reached v ts)) → All P (reached w (talker p s ++ ts))
talker-goes P w p None ts h plain rest =
    quiet P w (0x40 + p) (Talk p) ts (talk_byte p h) refl (rest (on_command w (Talk p)) refl)
talker-goes P w p (Some s) ts h plain rest =
    let v = on_command w (Talk p) in
    quiet P w (0x40 + p) (Talk p) (msa s ∷ ts) (talk_byte p h) refl
    (quiet P v (0x60 + s) (Secondary s) ts (secondary_byte s plain) refl (rest (on_command v (Secondary s)) refl))

-- bytes put reach the one listener, bytes got the talker
pub all-same : (P : Addr → Type 0) (a : Addr) (xs ys : List Addr) → xs ≡ a ∷ [] → P a → All P ys → All P (xs ++ ys)
all-same P a xs ys one at rest = subst (λ zs. All P (zs ++ ys)) (sym one) (All-cons P a ys at rest)

pub puts-reach : (P : Addr → Type 0) (w : Wire) (a : Addr) (end : Bool) (bytes : List ℕ) → w.listeners ≡ a ∷ [] → P a → All P (reached w (puts end bytes))
puts-reach P w a end [] one at = All-nil P
puts-reach P w a end (b ∷ []) one at = all-same P a w.listeners [] one at (All-nil P)
puts-reach P w a end (b ∷ c ∷ bs) one at = all-same P a w.listeners (reached w (puts end (c ∷ bs))) one at (puts-reach P w a end (c ∷ bs) one at)

pub gots-reach : (P : Addr → Type 0) (w : Wire) (a : Addr) (bs : List whole.Byte) (ts : List Transfer) → w.talker ≡ Some a → P a → All P (reached w ts) → All P (reached w (map whole.got bs ++ ts))
gots-reach P w a [] ts talks at rest = rest
gots-reach P w a (b ∷ bs) ts talks at rest =
    all-same P a (option_to_list w.talker) (reached w (map whole.got bs ++ ts)) (ap option_to_list talks) at (gots-reach P w a bs ts talks at rest)

-- ---- what is heard

-- of bytes put each listener hears all
pub heard-puts : (a : Addr) (w : Wire) (end : Bool) (bytes : List ℕ) → heard a w (puts end bytes) ≡ (if has_address w.listeners a then marked_bytes end bytes else [])
heard-puts a w end bytes = by (has_address w.listeners a) refl where
  by : (b : Bool) → has_address w.listeners a ≡ b → heard a w (puts end bytes) ≡ cond b (marked_bytes end bytes) []
  by true e = hears bytes where
    hears : (bytes : List ℕ) → heard a w (puts end bytes) ≡ marked_bytes end bytes
    hears [] = refl
    hears (b ∷ []) = ap (λ h. cond h (record { value = b; end = end } ∷ []) [] ++ []) e
    hears (b ∷ c ∷ bs) =
        ap (λ h. cond h (record { value = b; end = false } ∷ []) [] ++ heard a w (puts end (c ∷ bs))) e
        ∙ ap (λ rest. record { value = b; end = false } ∷ rest) (hears (c ∷ bs))
  by false e = misses bytes where
    misses : (bytes : List ℕ) → heard a w (puts end bytes) ≡ []
    misses [] = refl
    misses (b ∷ []) = ap (λ h. cond h (record { value = b; end = end } ∷ []) [] ++ []) e
    misses (b ∷ c ∷ bs) = ap (λ h. cond h (record { value = b; end = false } ∷ []) [] ++ heard a w (puts end (c ∷ bs))) e ∙ misses (c ∷ bs)

-- of the commands that address a device nobody hears anything
heard-listener : (a : Addr) (w : Wire) (p : ℕ) (s : Option ℕ) (ts : List Transfer) → p ≤ ADDRESS_MAX → IsSecondaryPlain s → w.listeners ≡ []
    → (v : Wire) × (v.listeners ≡ record { p = p; s = s } ∷ []) × (heard a w (listener p s ++ ts) ≡ heard a v ts)
heard-listener a w p None ts h plain empty = (
  step w (mla p),
  ap (λ c. (on_command w c).listeners) (listen_byte p h) ∙ listens-first p w.listeners h empty,
  refl,
)
heard-listener a w p (Some s) ts h plain empty = (
  step (step w (mla p)) (msa s),
  ap (λ c. (on_command (on_command w c) (command_of (0x60 + s))).listeners) (listen_byte p h)
      ∙ ap (λ c. (on_command (on_command w (Listen p)) c).listeners) (secondary_byte s plain)
      ∙ listens-second p s (on_command w (Listen p)).listeners h plain (listens-first p w.listeners h empty),
  refl,
)

-- the gateway talks, and the device listens alone
heard-unlisten : (a : Addr) (w : Wire) (own p : ℕ) (s : Option ℕ) (ts : List Transfer) → own ≤ ADDRESS_MAX → p ≤ ADDRESS_MAX → IsSecondaryPlain s
    → (v : Wire) × (v.listeners ≡ record { p = p; s = s } ∷ []) × (heard a w (unl ∷ mta own ∷ listener p s ++ ts) ≡ heard a v ts)
heard-unlisten a w own p s ts small h plain =
    heard-listener a (step (step w unl) (mta own)) p s ts h plain (ap (λ c. (on_command (step w unl) c).listeners) (talk_byte own small))

pub heard-addressed : (a : Addr) (w : Wire) (polling : Bool) (own p : ℕ) (s : Option ℕ) (ts : List Transfer) → own ≤ ADDRESS_MAX → p ≤ ADDRESS_MAX → IsSecondaryPlain s
    → (v : Wire) × (v.listeners ≡ record { p = p; s = s } ∷ []) × (heard a w (ended_poll polling ++ unl ∷ mta own ∷ listener p s ++ ts) ≡ heard a v ts)
heard-addressed a w true own p s ts small h plain = heard-unlisten a (step w spd) own p s ts small h plain
heard-addressed a w false own p s ts small h plain = heard-unlisten a w own p s ts small h plain
