-- The answer of a create_intr_chan whose dial was made.
use Rattle.std.proofs.Common.{◌≡◌, ◌≤◌, ◌<◌, ◌==◌, ℕ, ◌⊎◌, inl, inr, Bool, true, false, cond, List, [], ◌∷◌, length, Option, Some, None, refl, sym, ap, ◌∙◌, subst, arith}
use Rattle.std.specs.Prelude.{max, not, nat_lt, is_some, ◌&&◌, ◌||◌}
use Rattle.std.specs.List.{All, list_any}
use Rattle.std.proofs.lemmas.Bool.{false≢true, le-leb, or_cases, eqb-true}
use Rattle.std.proofs.lemmas.Bool.Decides.{nat_tests}
use Rattle.std.proofs.lemmas.List.Elements.{All-head, All-tail}
use Rattle.std.proofs.lemmas.Option.{same_Some}
use Rattle.std.proofs.Math.Bool.{and-false}
use Rattle.vx_calls.specs.declared.limits.TheConstants.{CONNECTION_LAST}
use Rattle.vx_calls.specs.declared.codes.ErrorCode.{ErrorCode}
use Rattle.vx_calls.specs.declared.codes.ErrorCode.TheVariants as code
use Rattle.vx_calls.specs.Call.{Call}
use Rattle.vx_calls.specs.Call as call
use Rattle.vx_calls.specs.Reply.{Reply}
use Rattle.vx_calls.specs.Reply as reply
use Rattle.vx_488.specs.Means.{Means}
use Rattle.vx_488.specs.Steps.{Step, Told, Cut}
use Rattle.vx_488.specs.Walks.{Walk}
use Rattle.vx_rules.specs.SrqState.{channel_at, has_number, with_new_channel}
use Rattle.vx_rules.specs.State.{Pending, Tables, pending_at, with_pending}
use Rattle.vx_rules.specs.Calls.{is_bus_call, is_lock_call}
use Rattle.vx_rules.specs.Checks.{check_channel, check, named_link}
use Rattle.vx_rules.specs.Lines.{lock_request, holder_against}
use Rattle.vx_rules.specs.Effects.{settle}
use Rattle.vx_flow.specs.Event.{Answer}
use Rattle.vx_flow.specs.InterleavedState.{Turn, InterleavedState}
use Rattle.vx_flow.specs.InterleavedStep.{bus_input, wire_for, waits_for_turn, on_conflict, turn_target}
use Rattle.vx_flow.specs.Does.{IsClear, AnsweredBy, ByDialUp, ByDialDown}
use Rattle.vx_core.specs.KernelState.{KernelState}
use Rattle.vx_core.specs.CoreState.{CoreState}
use Rattle.vx_core.specs.Shown.{core_of, cut_means, interleaved_of, closed}
use Rattle.vx_core.specs.Keeping.{IsDialable, IsDialed, KeepsDials, Keeps}
use Rattle.vx_core.proofs.Keeping.{keeps-later}
use Rattle.vx_core.proofs.CoreCalls.{Steps, Leads, ends, cut-wire, led}
use Rattle.vx_rules.specs.Lines.{ahead_of}
use Rattle.vx_flow.specs.InterleavedStep.{busy_with}

-- ---- a call of which a dial was asked for

-- what holds of all numbers holds of one of them
among : (P : ℕ → Type 0) (conn : ℕ) (ns : List ℕ) → All P ns → list_any (λ n. n == conn) ns ≡ true → P conn
among P conn [] all h = absurd (false≢true h)
among P conn (n ∷ ns) all h = by (or_cases (n == conn) (list_any (λ m. m == conn) ns) h) (among P conn ns (All-tail P n ns all))
  where
    by : ((n == conn) ≡ true) ⊎ (list_any (λ m. m == conn) ns ≡ true) → (list_any (λ m. m == conn) ns ≡ true → P conn) → P conn
    by (inl here) rest = subst P (eqb-true n conn here) (All-head P n ns all)
    by (inr later) rest = rest later

-- so they aren't none
some-among : (conn : ℕ) (ns : List ℕ) → list_any (λ n. n == conn) ns ≡ true → 0 < length ns
some-among conn [] h = absurd (false≢true h)
some-among conn (n ∷ ns) h = omega arith

-- it is dialed
pub is_dialed : (t : Tables) (dialed : List ℕ) (conn : ℕ) → KeepsDials t dialed → list_any (λ n. n == conn) dialed ≡ true → IsDialed t conn
is_dialed t dialed conn k h = among (IsDialed t) conn dialed k.each h

-- and a channel number is left for it
pub number_left : (t : Tables) (dialed : List ℕ) (conn : ℕ) → KeepsDials t dialed → list_any (λ n. n == conn) dialed ≡ true → has_number t.srq_state ≡ true
number_left t dialed conn k h = le-leb t.srq_state.next_channel CONNECTION_LAST (omega (arith, k.numbers, some-among conn dialed h))

-- ---- its answer

-- four tests, one after the other
tests_pass : (a b c d : Bool) (w x y z : ErrorCode) → a ≡ false → b ≡ false → c ≡ false → d ≡ true
    → cond a (Some w) (cond b (Some x) (cond c (Some y) (cond d None (Some z)))) ≡ None
tests_pass a b c d w x y z p q r s = rw (p, q, r, s) refl

-- TCP is family 0
is_tcp : (n : ℕ) → n ≡ 0 → not (n == 0) ≡ false
is_tcp n h = grind (arith, nat_tests)

-- a port that there is
is_port : (n : ℕ) → 0 < n → n ≤ 65535 → ((n == 0) || nat_lt 65535 n) ≡ false
is_port n above within = grind (arith, nat_tests)

-- its checks let it pass
unchecked : (t : Tables) (conn family port : ℕ) → channel_at t.srq_state conn ≡ None → has_number t.srq_state ≡ true → family ≡ 0 → 0 < port → port ≤ 65535
    → check_channel t conn true family port ≡ None
unchecked t conn family port free left tcp above within =
    tests_pass (not (family == 0)) ((port == 0) || nat_lt 65535 port) (is_some (channel_at t.srq_state conn)) (has_number t.srq_state) _ _ _ _
    (is_tcp family tcp) (is_port port above within) (ap is_some free) left

-- it waits for nobody's turn
waits-not : (t : Tables) (own conn : ℕ) (p : Pending) (host port prog vers family : ℕ) (turn : Option Turn) → p.call ≡ call.CreateIntr host port prog vers family
    → waits_for_turn t own conn p turn ≡ false
waits-not t own conn p host port prog vers family None is = refl
waits-not t own conn p host port prog vers family (Some u) is =
    ap (λ (c : Call). not (u.connection == conn) && (is_bus_call c || (is_lock_call c && on_conflict (lock_request own (named_link t conn c) c) (turn_target t u)))) is
    ∙ and-false (not (u.connection == conn))

-- the lines let it pass: it names no link, and is under no lock
clear : (f : InterleavedState) (conn now : ℕ) (p : Pending) (host port prog vers family : ℕ) → p.aborted ≡ false → channel_at f.state.tables.srq_state conn ≡ None
    → has_number f.state.tables.srq_state ≡ true → p.call ≡ call.CreateIntr host port prog vers family → IsDialable (call.CreateIntr host port prog vers family)
    → IsClear f conn true p now
clear f conn now p host port prog vers family unmarked free left is able =
    let t = f.state.tables in
    let own : ℕ = (wire_for f conn).own in
    record {
      admitted = record {
        unmarked = unmarked;
        checked =
            ap (λ (c : Call). check t own conn true (named_link t conn c) c) is
            ∙ unchecked t conn family port free left able.0 able.1 able.2;
        unlocked = ap (λ (c : Call). holder_against t own (named_link t conn c) c) is;
        first = ap (λ (c : Call). ahead_of t (busy_with f.turn) own now conn (named_link t conn c) c) is;
      };
      alone = waits-not t own conn p host port prog vers family f.turn is;
    }

-- the line that answers a call whose dial was made
dial-line : (f : InterleavedState) (conn now : ℕ) (p : Pending) (up : Bool) (told : Reply) (after : Tables) → p.aborted ≡ false
    → channel_at f.state.tables.srq_state conn ≡ None → has_number f.state.tables.srq_state ≡ true → list_any (λ n. n == conn) f.dialed ≡ true
    → (asked : Call) → p.call ≡ asked → IsDialable asked → settle f.state.tables conn asked up ≡ Some (told, after)
    → AnsweredBy f conn now p (bus_input f conn false (Some up) false) told after
dial-line f conn now p true told after unmarked free left dialing (call.CreateIntr host port prog vers family) is able settles =
    let made = same_Some (reply.Error code.Ok, record f.state.tables { srq_state = with_new_channel f.state.tables.srq_state conn prog vers }) (told, after) settles in
    ByDialUp (clear f conn now p host port prog vers family unmarked free left is able)
    (record { host = host; port = port; program = prog; version = vers; family = family; asks = is; wanted = dialing; told_so = refl; held = refl; untold = refl })
    (ap (λ x. x.0) (sym made)) (ap (λ x. x.1) (sym made))
dial-line f conn now p false told after unmarked free left dialing (call.CreateIntr host port prog vers family) is able settles =
    let made = same_Some (reply.Error code.NoChannel, f.state.tables) (told, after) settles in
    ByDialDown (clear f conn now p host port prog vers family unmarked free left is able)
    (record { host = host; port = port; program = prog; version = vers; family = family; asks = is; wanted = dialing; told_so = refl; held = refl; untold = refl })
    (ap (λ x. x.0) (sym made)) (ap (λ x. x.1) (sym made))
dial-line f conn now p up told after unmarked free left dialing _ is able settles = absurd able

-- ---- a core whose dial was made

-- the core behind its answer
pub settles : {B : Type 0} (means : B → Means) (k : KernelState B) (bus : B) (conn now : ℕ) (up : Bool) (told : Reply) (after : Tables)
    → Keeps means k → means bus ≡ cut_means (means k.bus) → list_any (λ n. n == conn) k.dialed ≡ true → (d : IsDialed k.tables conn)
    → settle k.tables conn d.asked.call up ≡ Some (told, after)
    → Steps means k (Answer conn (max k.moment now) false (Some up) false told)
    (closed (record k { bus = bus; tables = after; moment = max k.moment now }) conn)
settles {B} means k bus conn now up told after keeps cut dialing d is =
    ends means k bus (with_pending after conn None) (max k.moment now) conn (Answer conn (max k.moment now) false (Some up) false told) refl keeps (cut-wire means k bus cut)
    (record {
      late = omega arith;
      asked = d.asked;
      call_at = d.call_at;
      after = after;
      line =
          dial-line (interleaved_of means k) conn (max k.moment now) d.asked up told after d.unmarked d.free (number_left k.tables k.dialed conn keeps.holds.dials dialing) dialing
          d.asked.call refl d.dialable is;
      leads = refl;
    })

-- ---- the call, by what its steps ensure

-- a core that was told a moment
pub told-later : {B : Type 0} (means : B → Means) (k mid : KernelState B) (now : ℕ) → Keeps means k → mid ≡ record k { bus = mid.bus; moment = max k.moment now }
    → means mid.bus ≡ cut_means (means k.bus) → Keeps means mid
told-later means k mid now keeps is cut =
    subst (Keeps means) (sym is) (keeps-later means k mid.bus (max k.moment now) (cut-wire means k mid.bus cut) (omega arith) keeps)

-- a dial was asked for, as callers see it and as the kernel has it
dialing-here : {B : Type 0} (means : B → Means) (k : KernelState B) (old : CoreState B) (conn : ℕ) → core_of means k ≡ old
    → list_any (λ n. n == conn) old.interleaved.dialed ≡ true → list_any (λ n. n == conn) k.dialed ≡ true
dialing-here {B} means k old conn view h = subst (λ (o : CoreState B). list_any (λ n. n == conn) o.interleaved.dialed ≡ true) (sym view) h

-- the call is dialed still, once the moment was told
pub dialed-still : {B : Type 0} (means : B → Means) (k mid : KernelState B) (old : CoreState B) (conn moment : ℕ) → core_of means k ≡ old → Keeps means k
    → list_any (λ n. n == conn) old.interleaved.dialed ≡ true → mid ≡ record k { bus = mid.bus; moment = moment } → IsDialed mid.tables conn
dialed-still {B} means k mid old conn moment view keeps dialing is =
    subst (λ (x : KernelState B). IsDialed x.tables conn) (sym is)
    (is_dialed k.tables k.dialed conn keeps.holds.dials (dialing-here means k old conn view dialing))

-- what the settling of a kernel's call ensures
abbrev pub SettlesSo : {B : Type 0} → KernelState B → ℕ → Bool → ErrorCode → KernelState B → Type 0
SettlesSo mid conn up error new = (p : Pending) → pending_at mid.tables conn ≡ Some p
    → (after : Tables) × (settle mid.tables conn p.call up ≡ Some (reply.Error error, after)) × (new ≡ closed (record mid { tables = after }) conn)

-- a moment is told, and then the dial is settled
pub settles-so : {B : Type 0} (means : B → Means) (k mid new : KernelState B) (old : CoreState B) (conn now : ℕ) (up : Bool) (error : ErrorCode) → core_of means k ≡ old → Keeps means k
    → list_any (λ n. n == conn) old.interleaved.dialed ≡ true → mid ≡ record k { bus = mid.bus; moment = max k.moment now } → means mid.bus ≡ cut_means (means k.bus)
    → SettlesSo mid conn up error new
    → Leads means old.interleaved (Answer conn (max old.interleaved.state.moment now) false (Some up) false (reply.Error error)) new
settles-so {B} means k mid new old conn now up error view keeps dialing is cut so = subst Seen view by dialing
  where
    Seen : CoreState B → Type 0
    Seen o = list_any (λ n. n == conn) o.interleaved.dialed ≡ true
        → Leads means o.interleaved (Answer conn (max o.interleaved.state.moment now) false (Some up) false (reply.Error error)) new

    by : Seen (core_of means k)
    by dialing =
        let d = is_dialed k.tables k.dialed conn keeps.holds.dials dialing in
        let made = so d.asked (ap (λ (x : KernelState B). pending_at x.tables conn) is ∙ d.call_at) in
        led means k (Answer conn (max k.moment now) false (Some up) false (reply.Error error)) new _
        (made.2 ∙ ap (λ (x : KernelState B). let mid : KernelState B = record x { tables = made.0 } in closed mid conn) is)
        (settles means k mid.bus conn now up (reply.Error error) made.0 keeps cut dialing d
        (ap (λ (x : KernelState B). settle x.tables conn d.asked.call up) (sym is) ∙ made.1))

-- the bus is as it was once it was told the moment
pub settles-walk : {B : Type 0} (means : B → Means) (through : B → Step → B → Type 0) (k mid new : KernelState B) (old : CoreState B) (conn now : ℕ) (up : Bool) (error : ErrorCode)
    → core_of means k ≡ old → Keeps means k → list_any (λ n. n == conn) old.interleaved.dialed ≡ true → mid ≡ record k { bus = mid.bus; moment = max k.moment now }
    → SettlesSo mid conn up error new → Walk means through k.bus (Cut ∷ Told (max k.moment now) ∷ []) mid.bus
    → Walk means through old.bus (Cut ∷ Told (max old.interleaved.state.moment now) ∷ []) new.bus
settles-walk {B} means through k mid new old conn now up error view keeps dialing is so walk =
    let d = dialed-still means k mid old conn (max k.moment now) view keeps dialing is in
    let made = so d.asked d.call_at in
    let same : new.bus ≡ mid.bus = ap (λ (x : KernelState B). x.bus) made.2 in
    subst (λ (o : CoreState B). Walk means through o.bus (Cut ∷ Told (max o.interleaved.state.moment now) ∷ []) new.bus) view
    (subst (λ (b : B). Walk means through k.bus (Cut ∷ Told (max k.moment now) ∷ []) b) (sym same) walk)

-- and so is what it tells of the last poll
pub settles-began : {B : Type 0} (means : B → Means) (k mid new : KernelState B) (old : CoreState B) (conn now : ℕ) (up : Bool) (error : ErrorCode)
    → core_of means k ≡ old → Keeps means k → list_any (λ n. n == conn) old.interleaved.dialed ≡ true → mid ≡ record k { bus = mid.bus; moment = max k.moment now }
    → SettlesSo mid conn up error new → new.began ≡ old.began
settles-began {B} means k mid new old conn now up error view keeps dialing is so =
    let d = dialed-still means k mid old conn (max k.moment now) view keeps dialing is in
    let made = so d.asked d.call_at in
    ap (λ (x : KernelState B). x.began) made.2 ∙ ap (λ (x : KernelState B). x.began) is ∙ ap (λ (o : CoreState B). o.began) view
