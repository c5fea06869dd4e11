-- What calls that need no bus come to: their replies, and dials, for each of which a channel number is left.
use Rattle.std.proofs.Common.{◌≡◌, ◌≤◌, ◌<◌, ◌+◌, ◌==◌, ℕ, Bool, true, false, cond, not, ◌&&◌, ◌||◌, List, [], ◌∷◌, ◌++◌, length, take, Option, Some, None, is_some, refl, sym, ap, subst, ◌∙◌, arith, length-append}
use Rattle.std.specs.Prelude.{IsSome, nat_lt, nat_le, option_and_then, Result, Ok, Err}
use Rattle.std.specs.List.{All, IsDistinct, list_any}
use Rattle.std.proofs.lemmas.Bool.{false≢true, eqb-true}
use Rattle.std.proofs.lemmas.Bool.Decides.{nat_tests}
use Rattle.std.proofs.lemmas.Option.{same_Some}
use Rattle.std.proofs.lemmas.List.Elements.{All-filter, All-push, All-weaker}
use Rattle.vx_lemmas.proofs.Laws.Conditions.{passes}
use Rattle.vx_lemmas.proofs.Laws.Options.{nothing}
use Rattle.vx_lemmas.proofs.Laws.Lists.{found_passes, found_holds, found_among, All-kept}
use Rattle.vx_488.specs.Means.{Means}
use Rattle.vx_calls.specs.declared.calls.Role.TheVariants as role
use Rattle.vx_calls.specs.declared.codes.ErrorCode.{ErrorCode}
use Rattle.vx_calls.specs.declared.codes.ErrorCode.TheVariants as code
use Rattle.vx_calls.specs.declared.targets.Target.{Target}
use Rattle.vx_calls.specs.Target.{target}
use Rattle.vx_calls.specs.declared.limits.TheConstants.{CONNECTION_LAST, ROLE_MAX}
use Rattle.vx_calls.specs.Call.{Call}
use Rattle.vx_calls.specs.Call as call
use Rattle.vx_calls.specs.Reply.{Reply}
use Rattle.vx_rules.specs.SrqState.{channel_at}
use Rattle.vx_rules.specs.Table.{Link}
use Rattle.vx_rules.specs.State.{Pending, Connection, Tables, connection_at, pending_at, count_of, same_role}
use Rattle.vx_rules.specs.Sound.{IsSound, IsAsked}
use Rattle.vx_rules.specs.Calls.{asks_dial}
use Rattle.vx_rules.specs.Checks.{NamedLink, NoLink, DeadLink, OnLink, named_link, asks_channel, numbers_asked, check}
use Rattle.vx_rules.specs.Dials.{dials_to}
use Rattle.vx_rules.specs.Lines.{lets_pass}
use Rattle.vx_rules.specs.PassLaws.{PassedLets}
use Rattle.vx_rules.specs.Effects as effects
use Rattle.vx_lemmas.proofs.Laws.Lists.{found_holds, found_among, All-kept}
use Rattle.vx_flow.specs.InterleavedStep.{wire_for, without_dial}
use Rattle.vx_flow.proofs.Laws.{admit}
use Rattle.vx_core.specs.Given.{reply_bytes}
use Rattle.vx_core.specs.KernelState.{KernelState}
use Rattle.vx_core.specs.Shown.{interleaved_of, own_of}
use Rattle.vx_core.specs.Keeping.{IsDialable, IsDialed, KeepsDials}
use Rattle.vx_core.specs.Turning.{HasPassed}
use Rattle.vx_core.proofs.Laws.{the_pending, own-is, distinct-filter}
use Rattle.vx_core.proofs.Laws.Counting.{distinct_numbers, distinct-moved}
use Rattle.vx_flow.specs.InterleavedStep.{busy_with}

-- a call that the first lines let pass has neither a check nor a lock against it
pub passed-lets : {B : Type 0} (means : B → Means) (k : KernelState B) (conn : ℕ) → PassedLets → HasPassed means k conn
    → (p : Pending) → pending_at k.tables conn ≡ Some p → lets_pass k.tables (own_of means k conn) conn p ≡ true
passed-lets means k conn law passed p at =
    subst (λ own. lets_pass k.tables own conn p ≡ true) (sym (own-is means k conn))
    (law k.tables (busy_with (interleaved_of means k).turn) (wire_for (interleaved_of means k) conn).own conn k.moment p (passed p at))

-- a call whose check is passed over, with the rest
no_refusal : (b : Bool) (error : ErrorCode) (rest : Option ErrorCode) → cond b (Some error) rest ≡ None → (b ≡ false) × (rest ≡ None)
no_refusal true error rest h = cc
no_refusal false error rest h = (refl, h)

is_zero : (n : ℕ) → not (n == 0) ≡ false → n ≡ 0
is_zero n h = grind (arith, nat_tests)

above_zero : (n : ℕ) → ((n == 0) || nat_lt 65535 n) ≡ false → 0 < n
above_zero n h = grind (arith, nat_tests)

within_port : (n : ℕ) → ((n == 0) || nat_lt 65535 n) ≡ false → n ≤ 65535
within_port n h = grind (arith, nat_tests)

within_last : (n m : ℕ) → nat_le n m ≡ true → n ≤ m
within_last n m h = grind (arith, nat_tests)

-- a create_intr_chan that its checks let pass, with a channel number left for it and for those that others asked for
pub record MayDial (t : Tables) (conn : ℕ) (asked : Call) : Type 0 where
  pub dialable : IsDialable asked
  pub free : channel_at t.srq_state conn ≡ None
  pub left : t.srq_state.next_channel + numbers_asked t conn ≤ CONNECTION_LAST

checked_dial : (t : Tables) (own conn : ℕ) (asked : Call) → asks_dial asked ≡ true → check t own conn false (named_link t conn asked) asked ≡ None → MayDial t conn asked
checked_dial t own conn (call.CreateIntr host port prog vers family) dial h =
    let one = no_refusal (not (family == 0)) code.NotSupported _ h in
    let two = no_refusal ((port == 0) || nat_lt 65535 port) code.InvalidAddress _ one.1 in
    let three = no_refusal (is_some (channel_at t.srq_state conn)) code.ChannelUp _ two.1 in
    let four = passes (nat_le (t.srq_state.next_channel + numbers_asked t conn) CONNECTION_LAST) code.NoResources three.1 in
    record {
      dialable = (is_zero family one.0, above_zero port two.0, within_port port two.0);
      free = nothing (channel_at t.srq_state conn) three.0;
      left = within_last (t.srq_state.next_channel + numbers_asked t conn) CONNECTION_LAST four;
    }
checked_dial t own conn _ dial h = absurd (false≢true dial)

-- the call of a connection that asks for a dial, where it passed
pub record PassedDial (t : Tables) (conn : ℕ) : Type 0 where
  pub asked : Pending
  pub call_at : pending_at t conn ≡ Some asked
  pub unmarked : asked.aborted ≡ false
  pub may : MayDial t conn asked.call

-- it has asked for one, and nothing is against it
pub passed_dial : {B : Type 0} (means : B → Means) (k : KernelState B) (conn : ℕ) → IsSome (pending_at k.tables conn) → HasPassed means k conn
    → ((p : Pending) → pending_at k.tables conn ≡ Some p → asks_dial p.call ≡ true) → PassedDial k.tables conn
passed_dial means k conn pending passed dials =
    let p = the_pending (pending_at k.tables conn) pending in
    let own : ℕ = (wire_for (interleaved_of means k) conn).own in
    let clear = admit k.tables (busy_with (interleaved_of means k).turn) own conn false p.0 k.moment (passed p.0 p.1) in
    record { asked = p.0; call_at = p.1; unmarked = clear.unmarked; may = checked_dial k.tables own conn p.0.call (dials p.0 p.1) clear.checked }

-- such a call is one of which a dial may be asked for
pub dialed_by : (t : Tables) (conn : ℕ) → PassedDial t conn → IsDialed t conn
dialed_by t conn d = record { asked = d.asked; call_at = d.call_at; unmarked = d.unmarked; dialable = d.may.dialable; free = d.may.free }

-- a connection of whose call a dial was asked for lives, and has a create_intr_chan
record Dials (t : Tables) (conn : ℕ) : Type 0 where
  connection : Connection
  found : connection_at t conn ≡ Some connection
  asks : asks_channel connection.pending ≡ true

dialable-asks : (asked : Call) → IsDialable asked → asks_dial asked ≡ true
dialable-asks (call.CreateIntr host port prog vers family) d = refl
dialable-asks _ d = absurd d

dials : (t : Tables) (conn : ℕ) → IsDialed t conn → Dials t conn
dials t conn d = at (connection_at t conn) refl d.call_at
  where
    at : (found : Option Connection) → connection_at t conn ≡ found → option_and_then (λ c. c.pending) found ≡ Some d.asked → Dials t conn
    at None is h = cc
    at (Some c) is h = record { connection = c; found = is; asks = ap asks_channel h ∙ dialable-asks d.asked.call d.dialable }

number_is : (t : Tables) (conn : ℕ) (d : Dials t conn) → (d.connection.number == conn) ≡ true
number_is t conn d = found_passes (λ c. c.number == conn) t.connections d.connection d.found

both : (a b : Bool) → a ≡ true → b ≡ true → (a && b) ≡ true
both a b p q = ap (λ x. x && b) p ∙ q

lives_with : (t : Tables) (conn : ℕ) (q : Connection → Bool) (d : Dials t conn) → q d.connection ≡ true → list_any (λ c. (c.number == conn) && q c) t.connections ≡ true
lives_with t conn q d h =
    found_among (λ c. c.number == conn) (λ c. (c.number == conn) && q c) t.connections d.connection d.found (both _ _ (number_is t conn d) h)

asked_some : (p : Option Pending) → asks_channel p ≡ true → is_some p ≡ true
asked_some None h = absurd (false≢true h)
asked_some (Some p) h = refl

-- the dials of others are no more than the channel numbers that they asked for
others_few : (t : Tables) (dialed : List ℕ) (conn : ℕ) → All (IsDialed t) dialed → IsDistinct (λ a b. a == b) dialed
    → length (without_dial dialed conn) ≤ numbers_asked t conn
others_few t dialed conn each once =
    distinct_numbers (λ c. c.number) (λ c. not (c.number == conn) && asks_channel c.pending) (without_dial dialed conn) t.connections
    (distinct-filter (λ n. not (n == conn)) dialed once)
    (All-kept (IsDialed t) (λ n. list_any (λ c. (c.number == n) && (not (c.number == conn) && asks_channel c.pending)) t.connections ≡ true)
    (λ n. not (n == conn)) dialed (λ n other d. asked n other (dials t n d)) each)
  where
    asked : (n : ℕ) → not (n == conn) ≡ true → Dials t n → list_any (λ c. (c.number == n) && (not (c.number == conn) && asks_channel c.pending)) t.connections ≡ true
    asked n other d =
        lives_with t n (λ c. not (c.number == conn) && asks_channel c.pending) d
        (both _ _ (subst (λ m. not (m == conn) ≡ true) (sym (eqb-true d.connection.number n (number_is t n d))) other) d.asks)

-- dials are no more than the core connections
pub dials_few : (t : Tables) (dialed : List ℕ) → IsSound t → All (IsDialed t) dialed → IsDistinct (λ a b. a == b) dialed
    → length dialed ≤ count_of t role.Core
dials_few t dialed sound each once =
    distinct_numbers (λ c. c.number) (λ c. same_role c.role role.Core) dialed t.connections once
    (All-weaker (IsDialed t) (λ n. list_any (λ c. (c.number == n) && same_role c.role role.Core) t.connections ≡ true)
    (λ n d. core n (dials t n d)) dialed each)
  where
    core : (n : ℕ) → Dials t n → list_any (λ c. (c.number == n) && same_role c.role role.Core) t.connections ≡ true
    core n d =
        lives_with t n (λ c. same_role c.role role.Core) d
        (found_holds IsAsked (λ c. c.number == n) t.connections d.connection sound.asked d.found (asked_some d.connection.pending d.asks))

-- with one dial more each is still asked for once, and a channel number is left for each
pub keeps_dials : (t : Tables) (dialed : List ℕ) (conn : ℕ) → KeepsDials t dialed → PassedDial t conn → KeepsDials t (without_dial dialed conn ++ conn ∷ [])
keeps_dials t dialed conn k d =
    let few : length (without_dial dialed conn) ≤ numbers_asked t conn = others_few t dialed conn k.each k.once in
    let left : t.srq_state.next_channel + numbers_asked t conn ≤ CONNECTION_LAST = d.may.left in
    let more : length (without_dial dialed conn ++ conn ∷ []) ≡ length (without_dial dialed conn) + 1 = length-append (without_dial dialed conn) (conn ∷ []) in
    record {
      each = All-push (IsDialed t) (without_dial dialed conn) conn (All-filter (λ n. not (n == conn)) (IsDialed t) dialed k.each) (dialed_by t conn d);
      once = distinct-moved dialed conn k.once;
      numbers = omega arith;
    }

-- and there is room for it
pub room_left : (t : Tables) (dialed : List ℕ) (conn : ℕ) → IsSound t → count_of t role.Core ≤ ROLE_MAX → KeepsDials t dialed → PassedDial t conn
    → length (without_dial dialed conn) < ROLE_MAX
room_left t dialed conn sound few k d =
    let next = keeps_dials t dialed conn k d in
    let all : length (without_dial dialed conn ++ conn ∷ []) ≤ count_of t role.Core = dials_few t (without_dial dialed conn ++ conn ∷ []) sound next.each next.once in
    let more : length (without_dial dialed conn ++ conn ∷ []) ≡ length (without_dial dialed conn) + 1 = length-append (without_dial dialed conn) (conn ∷ []) in
    omega arith

-- the port of a dial fits 16 bits
dialable-port : (asked : Call) → IsDialable asked → (dials_to asked).1 ≤ 65535
dialable-port (call.CreateIntr host port prog vers family) d = d.2
dialable-port _ d = absurd d

pub port_fits : (t : Tables) (conn : ℕ) (to : ℕ × ℕ) → PassedDial t conn → ((p : Pending) → pending_at t conn ≡ Some p → to ≡ dials_to p.call) → to.1 ≤ 65535
port_fits t conn to d is = subst (λ x. x.1 ≤ 65535) (sym (is d.asked d.call_at)) (dialable-port d.asked.call d.may.dialable)

-- the reply of a call that needs no bus has no bytes
first_bytes : (x y : Reply × Tables) → Some x ≡ Some y → reply_bytes y.0 ≡ reply_bytes x.0
first_bytes x y h = sym (ap (λ z. reply_bytes z.0) (same_Some x y h))

create_bytes : (t : Tables) (conn : ℕ) (lock : Bool) (named : Result Target ErrorCode) (told : Reply) (after : Tables)
    → effects.create t conn lock named ≡ Some (told, after) → reply_bytes told ≡ []
create_bytes t conn lock (Ok named) told after h = first_bytes _ _ h
create_bytes t conn lock (Err error) told after h = absurd (false≢true (ap is_some h))

on_bytes : (t : Tables) (conn : ℕ) (l : Link) (asked : Call) (told : Reply) (after : Tables)
    → effects.effect_on t conn l asked ≡ Some (told, after) → reply_bytes told ≡ []
on_bytes t conn l (call.Lock lid flags lock_timeout) told after h = first_bytes _ _ h
on_bytes t conn l (call.Unlock lid) told after h = first_bytes _ _ h
on_bytes t conn l (call.EnableSrq lid enable handle) told after h = first_bytes _ _ h
on_bytes t conn l (call.DestroyLink lid) told after h = first_bytes _ _ h
on_bytes t conn l _ told after h = absurd (false≢true (ap is_some h))

effect_bytes : (t : Tables) (own conn : ℕ) (about : NamedLink) (asked : Call) (told : Reply) (after : Tables)
    → effects.effect t own conn about asked ≡ Some (told, after) → reply_bytes told ≡ []
effect_bytes t own conn (OnLink l) asked told after h = on_bytes t conn l asked told after h
effect_bytes t own conn DeadLink asked told after h = absurd (false≢true (ap is_some h))
effect_bytes t own conn NoLink (call.CreateLink client lock lock_timeout device) told after h = create_bytes t conn lock (target device own) told after h
effect_bytes t own conn NoLink call.DestroyIntr told after h = first_bytes _ _ h
effect_bytes t own conn NoLink _ told after h = absurd (false≢true (ap is_some h))

pub no_bytes : (t : Tables) (own conn : ℕ) (told : Reply) (after : Tables) → IsSome (pending_at t conn)
    → ((p : Pending) → pending_at t conn ≡ Some p → effects.effect t own conn (named_link t conn p.call) p.call ≡ Some (told, after)) → reply_bytes told ≡ []
no_bytes t own conn told after pending h = at (pending_at t conn) refl pending
  where
    at : (found : Option Pending) → pending_at t conn ≡ found → is_some found ≡ true → reply_bytes told ≡ []
    at None is some = absurd (false≢true some)
    at (Some p) is some = effect_bytes t own conn (named_link t conn p.call) p.call told after (h p is)

-- the state in which one dial more was asked for
pub redialed : {B : Type 0} (before k : KernelState B) (conn : ℕ) (dialed : List ℕ) → before ≡ k → dialed ≡ without_dial before.dialed conn ++ conn ∷ []
    → (let after : KernelState B = record before { dialed = dialed } in after) ≡ record k { dialed = without_dial k.dialed conn ++ conn ∷ [] }
redialed {B} before k conn dialed view is =
    ap (λ (ds : List ℕ). let after : KernelState B = record before { dialed = ds } in after) is
    ∙ ap (λ (u : KernelState B). let after : KernelState B = record u { dialed = without_dial u.dialed conn ++ conn ∷ [] } in after) view

-- the front of a room holds no bytes
pub no_front : (bytes room : List ℕ) → bytes ≡ [] → take (length bytes) room ≡ bytes
no_front bytes room is = subst (λ (bs : List ℕ). take (length bs) room ≡ bs) (sym is) refl
