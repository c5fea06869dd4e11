-- What the instruments hear of a write, they take.
use Rattle.std.proofs.Common.{◌≡◌, ◌≢◌, ◌≤◌, ℕ, Bool, true, false, cond, List, [], ◌∷◌, ◌++◌, map, Option, Some, None, refl, sym, ap, ◌∙◌, subst}
use Rattle.std.specs.Prelude.{◌==◌, ◌&&◌}
use Rattle.std.specs.Option.{option_and_then}
use Rattle.std.specs.List.{All, AllZip, list_all}
use Rattle.std.proofs.lemmas.Bool.{false≢true, and_parts, and_from}
use Rattle.std.proofs.lemmas.List.Folds.{list_all-append}
use Rattle.vx_calls.specs.declared.targets.Target.{Target}
use Rattle.vx_calls.specs.declared.targets.Target.TheVariants.{Interface, Device}
use Rattle.vx_calls.specs.Call.{Call}
use Rattle.vx_calls.specs.Call as call
use Rattle.vx_488.specs.declared.transfers.TheConstants.{ADDRESS_MAX}
use Rattle.vx_488.specs.declared.transfers.Transfer.{Transfer}
use Rattle.vx_488.specs.declared.wire.Wire.{Wire}
use Rattle.vx_488.specs.Heard.{heard}
use Rattle.vx_488.proofs.Laws.AddressCommands.{listen_byte, talk_byte, secondary_byte}
use Rattle.vx_plan.specs.Plan.{Slot, Off, stand}
use Rattle.vx_plan.specs.Tasks.{unl, mta, listener, ended_poll, puts, just, write_plan, IsTargetPlain, IsSecondaryPlain}
use Rattle.vx_rules.specs.Table.{Link}
use Rattle.vx_488.specs.Steps.{Step, Went, Told, Cut}
use Rattle.vx_sim.specs.Bench.{some_asks, some_refuses}
use Rattle.vx_sim.specs.SimState.{Through}
use Rattle.vx_sim.specs.Laws.{is_quiet, only_puts, TakesAll}
use Rattle.vx_sim.proofs.Laws.{steps-moves}
use Rattle.vx_sim.proofs.Laws.Hears.{heard-taken}
use Rattle.vx_rules.specs.Lists.{along}
use Rattle.vx_rules.specs.State.{Pending, Tables, pending_at, link_of}
use Rattle.vx_rules.specs.Calls.{sets_end}
use Rattle.vx_rules.specs.Checks.{link_found, named_link}
use Rattle.vx_rules.specs.Effects.{task_of}
use Rattle.vx_rules.specs.Serving.{IsPlainLink}
use Rattle.vx_rules.specs.Decide.{stand_of_job}
use Rattle.vx_flow.specs.Event.{Begin, Move}
use Rattle.vx_flow.specs.InterleavedState.{InterleavedState}
use Rattle.vx_flow.specs.InterleavedStep.{call_stand, interleaved_step}
use Rattle.vx_flow.specs.Poll.{Ending, ran_of, begins, run_events}
use Rattle.vx_flow.specs.declared.progress.Ran.{Ran}
use Rattle.vx_flow.specs.declared.progress.Ran.TheVariants as ran
use Rattle.vx_flow.specs.Sound.{TurnStands, IsSound}
use Rattle.vx_flow.proofs.Laws.{interleaved-does, just-front}
use Rattle.vx_flow.proofs.Laws.Plain.{found-has}
use Rattle.vx_core.specs.Polling.{PollOnBus, wanted, refused_ask}
use Rattle.vx_player.specs.Gateway.{Gateway}
use Rattle.vx_player.specs.Hearing.{is_write, TakesHeard}
use Rattle.vx_player.proofs.Laws.{refused-none}

-- ---- transfers that change instruments at most by a byte that is put

abbrev all_quiet : List Transfer → Bool
all_quiet ts = list_all (λ t. only_puts (Went t)) ts

-- of one list and then another
quiet-both : (xs ys : List Transfer) → all_quiet xs ≡ true → all_quiet ys ≡ true → all_quiet (xs ++ ys) ≡ true
quiet-both xs ys h k = list_all-append (λ t. only_puts (Went t)) xs ys ∙ and_from (all_quiet xs) (all_quiet ys) h k

quiet-parts : (xs ys : List Transfer) → all_quiet (xs ++ ys) ≡ true → (all_quiet xs ≡ true) × (all_quiet ys ≡ true)
quiet-parts xs ys h = and_parts (all_quiet xs) (all_quiet ys) (sym (list_all-append (λ t. only_puts (Went t)) xs ys) ∙ h)

-- serial poll mode ends so
ended-quiet : (polling : Bool) → all_quiet (ended_poll polling) ≡ true
ended-quiet true = refl
ended-quiet false = refl

-- a device is made a listener so
listener-quiet : (p : ℕ) (s : Option ℕ) → p ≤ ADDRESS_MAX → IsSecondaryPlain s → all_quiet (listener p s) ≡ true
listener-quiet p None h plain = and_from _ _ (ap is_quiet (listen_byte p h)) refl
listener-quiet p (Some s) h plain = and_from _ _ (ap is_quiet (listen_byte p h)) (and_from _ _ (ap is_quiet (secondary_byte s plain)) refl)

-- bytes are put so
puts-quiet : (end : Bool) (bytes : List ℕ) → all_quiet (puts end bytes) ≡ true
puts-quiet end [] = refl
puts-quiet end (b ∷ []) = refl
puts-quiet end (b ∷ c ∷ bs) = puts-quiet end (c ∷ bs)

-- all that a write to a device makes
addressed-quiet : (p : ℕ) (s : Option ℕ) (end : Bool) (bytes : List ℕ) (polling : Bool) (own : ℕ) → IsTargetPlain (Device p s) → own ≤ ADDRESS_MAX
    → all_quiet (ended_poll polling ++ unl ∷ mta own ∷ listener p s ++ puts end bytes) ≡ true
addressed-quiet p s end bytes polling own plain small =
    quiet-both (ended_poll polling ++ unl ∷ mta own ∷ listener p s) (puts end bytes)
    (quiet-both (ended_poll polling) (unl ∷ mta own ∷ listener p s) (ended-quiet polling)
    (and_from _ _ (ap is_quiet (talk_byte own small)) (listener-quiet p s plain.0 plain.1)))
    (puts-quiet end bytes)

-- ---- the transfers of a write

-- a list that keeps to a plan of such transfers alone
just-quiet : (xs ts : List Transfer) → all_quiet xs ≡ true → stand (just xs) ts ≢ Off → all_quiet ts ≡ true
just-quiet xs ts quiet on =
    let front = just-front xs ts on in
    (quiet-parts ts front.0 (ap all_quiet front.1 ∙ quiet)).0

-- to the plan of a write
plan-quiet : (t : Target) (end : Bool) (bytes : List ℕ) (polling : Bool) (own : ℕ) (ts : List Transfer) → IsTargetPlain t → own ≤ ADDRESS_MAX
    → stand (write_plan t end bytes polling own) ts ≢ Off → all_quiet ts ≡ true
plan-quiet Interface end bytes polling own ts plain small on = just-quiet (puts end bytes) ts (puts-quiet end bytes) on
plan-quiet (Device p s) end bytes polling own ts plain small on =
    just-quiet (ended_poll polling ++ unl ∷ mta own ∷ listener p s ++ puts end bytes) ts (addressed-quiet p s end bytes polling own plain small) on

-- to the job of a call that writes
call-quiet : (t : Tables) (w : Wire) (conn : ℕ) (asked : Call) (ts : List Transfer) → All IsPlainLink t.links.links → w.own ≤ ADDRESS_MAX → is_write asked ≡ true
    → stand_of_job w asked ts (task_of (named_link t conn asked) asked) ≢ Off → all_quiet ts ≡ true
call-quiet t w conn (call.Write lid io_timeout lock_timeout flags bytes) ts plain small is on = by (link_of t conn lid) refl on where
  by : (o : Option Link) → link_of t conn lid ≡ o
      → stand_of_job w (call.Write lid io_timeout lock_timeout flags bytes) ts (task_of (link_found o) (call.Write lid io_timeout lock_timeout flags bytes)) ≢ Off
      → all_quiet ts ≡ true
  by None e on = absurd (on refl)
  by (Some l) e on =
      plan-quiet l.target (sets_end flags) bytes w.polling w.own ts
      (found-has IsPlainLink (λ k. (k.number == lid) && (k.connection == conn)) t.links.links l e plain) small on
call-quiet t w conn _ ts plain small is on = absurd (false≢true is)

-- ---- the transfers of a poll

-- what holds of every core: it is sound, and the addresses of links, and the own one as the turn began, are at most 30
pub record IsSteady (f : InterleavedState) : Type 0 where
  pub sound : IsSound f
  pub links : All IsPlainLink f.state.tables.links.links
  pub own : f.before.own ≤ ADDRESS_MAX

-- the call of a connection is a write; the addresses of links, and the own one as its turn began, are at most 30
record Writes (f : InterleavedState) (conn : ℕ) (p : Pending) : Type 0 where
  call_at : pending_at f.state.tables conn ≡ Some p
  writes : is_write p.call ≡ true
  links : All IsPlainLink f.state.tables.links.links
  own : f.before.own ≤ ADDRESS_MAX

-- its turn goes on by these transfers
moved-quiet : (f next : InterleavedState) (conn : ℕ) (p : Pending) (moves : List Transfer) → Writes f conn p → interleaved_step f (Move conn moves) ≡ Some next → all_quiet moves ≡ true
moved-quiet f next conn p moves w h =
    let d = (interleaved-does f next (Move conn moves) h).step in
    let t = f.state.tables in
    let made = d.turn.moves ++ moves in
    let here : call_stand t f.before conn made (pending_at t conn) ≢ Off = subst (λ n. call_stand t f.before n made (pending_at t n) ≢ Off) d.of_call d.on_plan in
    (quiet-parts d.turn.moves moves
    (call-quiet t f.before conn p.call made w.links w.own w.writes (subst (λ o. call_stand t f.before conn made o ≢ Off) w.call_at here))).1

-- where no turn is under way the bus as it began is the bus as it is
wire-is : (f : InterleavedState) → IsSound f → f.turn ≡ None → f.before ≡ f.state.wire
wire-is f sound none = subst (TurnStands f.state.tables f.before f.state.wire f.state.moment) none sound.turn_stands

-- the turn of a write begins
begun-writes : (f mid : InterleavedState) (conn now : ℕ) (p : Pending) → IsSound f → Writes f conn p → interleaved_step f (Begin conn now) ≡ Some mid → Writes mid conn p
begun-writes f mid conn now p sound w h =
    let d = (interleaved-does f mid (Begin conn now) h).step in
    let small : f.state.wire.own ≤ ADDRESS_MAX = subst (λ (v : Wire). v.own ≤ ADDRESS_MAX) (wire-is f sound d.no_turn) w.own in
    subst (λ m. Writes m conn p) (sym d.leads) (record { call_at = w.call_at; writes = w.writes; links = w.links; own = small })

-- the transfers of a poll of a write
run-quiet : (f behind : InterleavedState) (conn now : ℕ) (p : Pending) (moves : List Transfer) → IsSound f → Writes f conn p
    → along interleaved_step (Some f) (run_events f conn now moves) ≡ Some behind → all_quiet moves ≡ true
run-quiet f behind conn now p [] sound w h = refl
run-quiet f behind conn now p (t ∷ ts) sound w h = by (begins f conn now) h where
  begun : (o : Option InterleavedState) → interleaved_step f (Begin conn now) ≡ o → option_and_then (λ s. interleaved_step s (Move conn (t ∷ ts))) o ≡ Some behind → all_quiet (t ∷ ts) ≡ true
  begun None e h = cc
  begun (Some mid) e h = moved-quiet mid behind conn p (t ∷ ts) (begun-writes f mid conn now p sound w e) h

  by : (b : Bool) → along interleaved_step (Some f) (cond b (Begin conn now ∷ []) [] ++ Move conn (t ∷ ts) ∷ []) ≡ Some behind → all_quiet (t ∷ ts) ≡ true
  by true h = begun (interleaved_step f (Begin conn now)) refl h
  by false h = moved-quiet f behind conn p (t ∷ ts) w h

-- ---- the steps of a poll

-- an ask that didn't go changes nothing, and is no transfer
refused-quiet : (ran : Ran) (slot : Option Slot) → list_all only_puts (refused_ask ran slot) ≡ true
refused-quiet ran.Paused (Some slot) = refl
refused-quiet ran.Paused None = refl
refused-quiet ran.Broken (Some slot) = refl
refused-quiet ran.Broken None = refl
refused-quiet ran.Still slot = refl
refused-quiet ran.Sliced slot = refl
refused-quiet ran.Finished slot = refl

-- transfers that went, and steps behind them
steps-quiet : (moves : List Transfer) (rest : List Step) → all_quiet moves ≡ true → list_all only_puts rest ≡ true → list_all only_puts (map Went moves ++ rest) ≡ true
steps-quiet [] rest h k = k
steps-quiet (t ∷ ts) rest h k =
    let both = and_parts (only_puts (Went t)) (all_quiet ts) h in
    and_from (only_puts (Went t)) (list_all only_puts (map Went ts ++ rest)) both.0 (steps-quiet ts rest both.1 k)

-- In a poll of a write the instruments are told the moment, and then each takes, in order, the bytes that its address hears
-- of the poll's transfers, and no others.
pub write-taken : (before after : Gateway) (conn now : ℕ) (ending : Ending)
    → PollOnBus (λ s. s.means) Through (λ s. some_asks s.bench) (λ s. some_refuses s.means.wire s.bench) before.interleaved before.bus conn now (Cut ∷ Told now ∷ []) ending after.interleaved after.bus
    → IsSteady before.interleaved
    → (p : Pending) → pending_at before.interleaved.state.tables conn ≡ Some p → is_write p.call ≡ true → TakesHeard before.bus now after.bus.means.moves after.bus
write-taken before after conn now ending over steady p at is =
    let moves = after.bus.means.moves in
    let writes : Writes before.interleaved conn p = record { call_at = at; writes = is; links = steady.links; own = steady.own } in
    let quiet = run-quiet before.interleaved over.polls.behind conn now p moves steady.sound writes over.polls.runs_to in
    let ran = ran_of ending in
    let slot = wanted over.polls.behind conn over.polls.asked in
    let told = over.walk.2.0 in
    let takes = heard-taken told after.bus (map Went moves ++ refused_ask ran slot) (steps-quiet moves (refused_ask ran slot) quiet (refused-quiet ran slot)) over.walk.2.2 in
    record {
      told = told;
      tells = (over.walk.0, over.walk.1, (told, over.walk.2.1, refl));
      takes = subst (λ ts. AllZip (λ p q. (q.at ≡ p.at) × TakesAll (heard p.at told.means.wire ts) p.occupant q.occupant) told.bench after.bus.bench)
          (steps-moves moves (refused_ask ran slot) (refused-none ran slot)) takes;
    }
