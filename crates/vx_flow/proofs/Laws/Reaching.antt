-- A job on a device reaches addresses of its primary alone.
use Rattle.std.proofs.Common.{◌≡◌, ◌≤◌, ◌+◌, ◌==◌, ℕ, Bool, true, false, cond, List, [], ◌∷◌, ◌++◌, map, append-nil, Option, Some, None, refl, sym, ap, ◌∙◌, subst}
use Rattle.std.specs.Prelude.{length, min, if◌then◌else◌}
use Rattle.std.specs.List.{All}
use Rattle.std.proofs.lemmas.Bool.{true≢false}
use Rattle.std.proofs.lemmas.Option.{same_Some}
use Rattle.std.proofs.lemmas.List.Elements.{All-nil}
use Rattle.vx_calls.specs.declared.codes.ErrorCode.{ErrorCode}
use Rattle.vx_calls.specs.declared.codes.ErrorCode.TheVariants as code
use Rattle.vx_calls.specs.declared.targets.Target.TheVariants.{Device}
use Rattle.vx_calls.specs.declared.limits.TheConstants.{READ_MAX}
use Rattle.vx_calls.specs.Call.{Call}
use Rattle.vx_calls.specs.Call as call
use Rattle.vx_488.specs.declared.transfers.TheConstants.{ADDRESS_MAX}
use Rattle.vx_488.specs.declared.transfers.Addr.{Addr}
use Rattle.vx_488.specs.declared.transfers.Transfer.{Transfer}
use Rattle.vx_488.specs.declared.transfers.Transfer.TheVariants as transfer
use Rattle.vx_488.specs.declared.commands.Command.TheVariants.{Listen, Talk}
use Rattle.vx_488.specs.declared.wire.Wire.{Wire}
use Rattle.vx_488.specs.Wire.{on_command, step}
use Rattle.vx_488.specs.Heard.{reached_by, reached}
use Rattle.vx_488.proofs.Laws.AddressCommands.{listen_byte, talk_byte}
use Rattle.vx_plan.specs.declared.tasks.Task.{Task}
use Rattle.vx_plan.specs.declared.tasks.Task.TheVariants as task
use Rattle.vx_plan.specs.Plan.{Slot, This, AnyByte}
use Rattle.vx_plan.specs.Whole as whole
use Rattle.vx_plan.specs.Whole.{Fits, Fill, IsWhole}
use Rattle.vx_plan.specs.Tasks.{unl, unt, spe, spd, sdc, get, gtl, mla, mta, listener, talker, ended_poll, puts, just, plan, IsSecondaryPlain}
use Rattle.vx_rules.specs.Table.{Link}
use Rattle.vx_rules.specs.State.{Tables}
use Rattle.vx_rules.specs.Calls.{bytes_of, sets_end, sets_stop}
use Rattle.vx_rules.specs.Checks.{is_interface, check_command, check_on}
use Rattle.vx_rules.specs.Docmd.{command_of}
use Rattle.vx_rules.specs.Effects.{task_on}
use Rattle.vx_flow.proofs.Laws.Whom.{fill-this, whole-just, At, quiet, listener-goes, talker-goes, all-same, puts-reach, gots-reach}

-- a whole list without a read
just-reaches : (P : Addr → Type 0) (w : Wire) (xs ts : List Transfer) → IsWhole (just xs) ts → All P (reached w xs) → All P (reached w ts)
just-reaches P w xs ts made h = subst (λ y. All P (reached w y)) (sym (whole-just xs ts made)) h

-- serial poll mode is ended first, where it was left on
ended-goes : (P : Addr → Type 0) (w : Wire) (polling : Bool) (xs ys : List Transfer) → ((v : Wire) → All P (reached v (xs ++ ys)))
    → All P (reached w ((ended_poll polling ++ xs) ++ ys))
ended-goes P w true xs ys rest = rest (step w spd)
ended-goes P w false xs ys rest = rest w

first-goes : (P : Addr → Type 0) (w : Wire) (polling : Bool) (xs : List Transfer) → ((v : Wire) → All P (reached v xs)) → All P (reached w (ended_poll polling ++ xs))
first-goes P w true xs rest = rest (step w spd)
first-goes P w false xs rest = rest w

-- UNL and the gateway's own address reach nobody
unlisten-talk : (P : Addr → Type 0) (w : Wire) (own : ℕ) (ts : List Transfer) → own ≤ ADDRESS_MAX → ((v : Wire) → v.listeners ≡ [] → All P (reached v ts)) → All P (reached w (unl ∷ mta own ∷ ts))
unlisten-talk P w own ts small rest =
    quiet P (step w unl) (0x40 + own) (Talk own) ts (talk_byte own small) refl (rest (on_command (step w unl) (Talk own)) refl)

unlisten-listen : (P : Addr → Type 0) (w : Wire) (own : ℕ) (ts : List Transfer) → own ≤ ADDRESS_MAX → ((v : Wire) → All P (reached v ts)) → All P (reached w (unl ∷ mla own ∷ ts))
unlisten-listen P w own ts small rest =
    quiet P (step w unl) (0x20 + own) (Listen own) ts (listen_byte own small) refl (rest (on_command (step w unl) (Listen own)))

module _ (w : Wire) (p : ℕ) (s : Option ℕ) (within : p ≤ ADDRESS_MAX) (plain : IsSecondaryPlain s) (small : w.own ≤ ADDRESS_MAX) where
  abbrev here : Addr
  here = record { p = p; s = s }

  write-reaches : (len : ℕ) (end : Bool) (ts : List Transfer) (bytes : List ℕ) → IsWhole (plan (task.Write (Device p s) len end) bytes w.polling w.own) ts → All (At p) (reached w ts)
  write-reaches len end ts bytes made =
      just-reaches (At p) w (ended_poll w.polling ++ unl ∷ mta w.own ∷ listener p s ++ puts end bytes) ts made
      (ended-goes (At p) w w.polling (unl ∷ mta w.own ∷ listener p s) (puts end bytes) (λ v.
      unlisten-talk (At p) v w.own (listener p s ++ puts end bytes) small (λ u none.
      listener-goes (At p) u p s (puts end bytes) within plain none (λ x one. puts-reach (At p) x here end bytes one refl))))

  -- bytes got come from the device
  read-goes : (v : Wire) (before : List whole.Byte) (last : whole.Byte) → All (At p) (reached v ((unl ∷ mla w.own ∷ talker p s) ++ (map whole.got before ++ whole.got last ∷ [])))
  read-goes v before last =
      unlisten-listen (At p) v w.own (talker p s ++ (map whole.got before ++ whole.got last ∷ [])) small (λ u.
      talker-goes (At p) u p s (map whole.got before ++ whole.got last ∷ []) within plain (λ x talks.
      gots-reach (At p) x here before (whole.got last ∷ []) talks refl (gots-reach (At p) x here (last ∷ []) [] talks refl (All-nil (At p)))))

  abbrev front : List Transfer
  front = ended_poll w.polling ++ unl ∷ mla w.own ∷ talker p s

  read-reaches : (max : ℕ) (stop : Option ℕ) (bytes : List ℕ) (ts : List Transfer) → IsWhole (plan (task.Read (Device p s) max stop) bytes w.polling w.own) ts → All (At p) (reached w ts)
  read-reaches max stop bytes ts made = by (max == 0) refl made where
    some : IsWhole (record { front = map This front; reading = Some (record { most = min max READ_MAX; stop = stop }) }) ts → All (At p) (reached w ts)
    some h =
        let read = h.4 in
        subst (λ y. All (At p) (reached w y))
        (sym (h.2 ∙ ap (λ f. f ++ h.1) (fill-this front h.0 h.3) ∙ ap (λ r. front ++ r) read.2))
        (ended-goes (At p) w w.polling (unl ∷ mla w.own ∷ talker p s) (map whole.got read.0 ++ whole.got read.1 ∷ []) (λ v. read-goes v read.0 read.1))

    by : (b : Bool) → (max == 0) ≡ b
        → IsWhole (cond b (just []) (record { front = map This front; reading = Some (record { most = min max READ_MAX; stop = stop }) })) ts → All (At p) (reached w ts)
    by true e h = just-reaches (At p) w [] ts h (All-nil (At p))
    by false e h = some h

  -- a serial poll
  first_fits : (slot : Slot) (slots : List Slot) (t : Transfer) (ts : List Transfer) → Fill (slot ∷ slots) (t ∷ ts) → Fits slot t
  first_fits slot slots t ts f = f.0

  behind_fits : (slot : Slot) (slots : List Slot) (t : Transfer) (ts : List Transfer) → Fill (slot ∷ slots) (t ∷ ts) → Fill slots ts
  behind_fits slot slots t ts f = f.1

  fill-append : (xs : List Transfer) (slots : List Slot) (ts : List Transfer) → Fill (map This xs ++ slots) ts → (rest : List Transfer) × (ts ≡ xs ++ rest) × Fill slots rest
  fill-append [] slots ts f = (ts, refl, f)
  fill-append (x ∷ xs) slots [] f = absurd f
  fill-append (x ∷ xs) slots (t ∷ ts) f =
      let rest = fill-append xs slots ts (behind_fits (This x) (map This xs ++ slots) t ts f) in
      (rest.0, ap (λ y. y ∷ ts) (first_fits (This x) (map This xs ++ slots) t ts f) ∙ ap (λ ys. x ∷ ys) rest.1, rest.2)

  fill-polled : (ts : List Transfer) → Fill (AnyByte ∷ This spd ∷ This unt ∷ []) ts → (b : whole.Byte) × (ts ≡ whole.got b ∷ spd ∷ unt ∷ [])
  fill-polled [] f = absurd f
  fill-polled (t ∷ ts) f =
      let b = first_fits AnyByte (This spd ∷ This unt ∷ []) t ts f in
      let rest = fill-this (spd ∷ unt ∷ []) ts (behind_fits AnyByte (This spd ∷ This unt ∷ []) t ts f) in
      (b.0, ap (λ y. y ∷ ts) b.1 ∙ ap (λ ys. whole.got b.0 ∷ ys) rest)

  poll-goes : (v : Wire) (b : whole.Byte) → All (At p) (reached v ((unl ∷ mla w.own ∷ spe ∷ talker p s) ++ whole.got b ∷ spd ∷ unt ∷ []))
  poll-goes v b =
      unlisten-listen (At p) v w.own (spe ∷ talker p s ++ whole.got b ∷ spd ∷ unt ∷ []) small (λ u.
      talker-goes (At p) (step u spe) p s (whole.got b ∷ spd ∷ unt ∷ []) within plain (λ x talks.
      gots-reach (At p) x here (b ∷ []) (spd ∷ unt ∷ []) talks refl (All-nil (At p))))

  stb-reaches : (bytes : List ℕ) (ts : List Transfer) → IsWhole (plan (task.Stb (Device p s)) bytes w.polling w.own) ts → All (At p) (reached w ts)
  stb-reaches bytes ts h =
      let polling_front = ended_poll w.polling ++ unl ∷ mla w.own ∷ spe ∷ talker p s in
      let parts = fill-append polling_front (AnyByte ∷ This spd ∷ This unt ∷ []) h.0 h.3 in
      let polled = fill-polled parts.0 parts.2 in
      subst (λ y. All (At p) (reached w y))
      (sym (h.2 ∙ ap (λ r. h.0 ++ r) h.4 ∙ append-nil h.0 ∙ parts.1 ∙ ap (λ r. polling_front ++ r) polled.1))
      (ended-goes (At p) w w.polling (unl ∷ mla w.own ∷ spe ∷ talker p s) (whole.got polled.0 ∷ spd ∷ unt ∷ []) (λ v. poll-goes v polled.0))

  -- a command to the device
  command-reaches : (device : Transfer) (ts : List Transfer) → ((v : Wire) → reached_by v device ≡ v.listeners)
      → IsWhole (just (ended_poll w.polling ++ unl ∷ listener p s ++ device ∷ [])) ts → All (At p) (reached w ts)
  command-reaches device ts to h =
      just-reaches (At p) w (ended_poll w.polling ++ unl ∷ listener p s ++ device ∷ []) ts h
      (ended-goes (At p) w w.polling (unl ∷ listener p s) (device ∷ []) (λ v.
      listener-goes (At p) (step v unl) p s (device ∷ []) within plain refl (λ x one.
      all-same (At p) here (reached_by x device) [] (to x ∙ one) refl (All-nil (At p)))))

  remote-reaches : (bytes : List ℕ) (ts : List Transfer) → IsWhole (plan (task.Remote (Device p s)) bytes w.polling w.own) ts → All (At p) (reached w ts)
  remote-reaches bytes ts h =
      just-reaches (At p) w (ended_poll w.polling ++ transfer.Ren true ∷ unl ∷ listener p s) ts h
      (first-goes (At p) w w.polling (transfer.Ren true ∷ unl ∷ listener p s) (λ v.
      subst (λ y. All (At p) (reached (step (step v (transfer.Ren true)) unl) y)) (append-nil (listener p s))
      (listener-goes (At p) (step (step v (transfer.Ren true)) unl) p s [] within plain refl (λ x one. All-nil (At p)))))

  -- by the call: where its checks pass, it is no device_docmd
  abbrev Reaches : Task → List ℕ → List Transfer → Type 0
  Reaches job bytes ts = IsWhole (plan job bytes w.polling w.own) ts → All (At p) (reached w ts)

  not-docmd : (b : Bool) (o : Option ErrorCode) → b ≡ false → cond b o (Some code.NotSupported) ≡ None → ⊥
  not-docmd true o e h = true≢false e
  not-docmd false o e h = cc

  pub device-reaches : (links : Tables) (own : ℕ) (l : Link) (asked : Call) (job : Task) (ts : List Transfer) → l.target ≡ Device p s → task_on (Device p s) asked ≡ Some job
      → check_on links own l asked ≡ None → Reaches job (bytes_of asked) ts
  device-reaches links own l (call.Write lid io_timeout lock_timeout flags bytes) job ts on e c =
      subst (λ j. Reaches j bytes ts) (same_Some (task.Write (Device p s) (length bytes) (sets_end flags)) job e) (write-reaches (length bytes) (sets_end flags) ts bytes)
  device-reaches links own l (call.Read lid request io_timeout lock_timeout flags term) job ts on e c =
      let stop = if sets_stop flags then Some term else None in
      subst (λ j. Reaches j [] ts) (same_Some (task.Read (Device p s) request stop) job e) (read-reaches request stop [] ts)
  device-reaches links own l (call.ReadStb generic) job ts on e c =
      subst (λ j. Reaches j [] ts) (same_Some (task.Stb (Device p s)) job e) (stb-reaches [] ts)
  device-reaches links own l (call.Trigger generic) job ts on e c =
      subst (λ j. Reaches j [] ts) (same_Some (task.Trigger (Device p s)) job e) (command-reaches get ts (λ v. refl))
  device-reaches links own l (call.Clear generic) job ts on e c =
      subst (λ j. Reaches j [] ts) (same_Some (task.Clear (Device p s)) job e) (command-reaches sdc ts (λ v. refl))
  device-reaches links own l (call.Remote generic) job ts on e c =
      subst (λ j. Reaches j [] ts) (same_Some (task.Remote (Device p s)) job e) (remote-reaches [] ts)
  device-reaches links own l (call.Local generic) job ts on e c =
      subst (λ j. Reaches j [] ts) (same_Some (task.Local (Device p s)) job e) (command-reaches gtl ts (λ v. refl))
  device-reaches links own l (call.Docmd lid flags io_timeout lock_timeout cmd big size bytes) job ts on e c =
      absurd (not-docmd (is_interface l.target) (check_command links own big bytes (command_of cmd)) (ap is_interface on) c)
  device-reaches links own l _ job ts on e c = cc
