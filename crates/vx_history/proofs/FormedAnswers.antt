-- What an answer tells of itself: its form, its error, whether the bus failed, and which level it tells.
use Rattle.std.proofs.Common.{◌≡◌, ℕ, ◌+◌, ◌<◌, ◌≤◌, ◌^◌, Bool, true, false, cond, not, ◌&&◌, ◌||◌, ◌==◌, List, [], ◌∷◌, map, length, Option, Some, None, Result, Ok, Err, is_some, refl, sym, ap, ◌∙◌, subst, arith, eqb-true}
use Rattle.std.specs.Option.{option_map, option_map_or}
use Rattle.std.specs.List.{All, list_any, cons_option}
use Rattle.std.proofs.lemmas.Bool.{false≢true, and_parts, and_left, and_right}
use Rattle.std.proofs.lemmas.Option.{same_Some, some_pair_parts}
use Rattle.std.proofs.lemmas.List.Elements.{All-head, All-tail}
use Rattle.std.proofs.lemmas.List.Sums.{count_by-le-length}
use Rattle.vx_lemmas.proofs.Laws.Conditions.{passes}
use Rattle.vx_calls.specs.declared.limits.TheConstants.{WRITE_MAX}
use Rattle.vx_calls.specs.declared.codes.ErrorCode.{ErrorCode}
use Rattle.vx_calls.specs.declared.codes.ErrorCode.TheVariants as code
use Rattle.vx_calls.specs.declared.targets.Target.{Target}
use Rattle.vx_calls.specs.Target.{target}
use Rattle.vx_calls.specs.ErrorCode.{error_number, same_error}
use Rattle.vx_calls.specs.Call.{Call}
use Rattle.vx_calls.specs.Call as call
use Rattle.vx_calls.specs.Reply.{Reply}
use Rattle.vx_calls.specs.Reply as reply
use Rattle.vx_calls.proofs.Laws.{number-small}
use Rattle.vx_488.specs.declared.transfers.Transfer.{Transfer}
use Rattle.vx_488.specs.declared.transfers.Transfer.TheVariants as transfer
use Rattle.vx_488.specs.declared.wire.Wire.{Wire}
use Rattle.vx_codec.specs.Answered.{ReplyFits, form_of, reply_form}
use Rattle.vx_plan.specs.declared.tasks.Task.{Task}
use Rattle.vx_plan.specs.declared.tasks.Task.TheVariants as task
use Rattle.vx_plan.specs.declared.tasks.TheConstants.{TURN_MAX}
use Rattle.vx_plan.specs.Roles.{has_role}
use Rattle.vx_plan.specs.Transfers.{got_of}
use Rattle.vx_plan.specs.Results.{gots, bytes_got, last_of, last_got, puts_made, is_put, status_got, status_number, flag_number, two_bytes, read_reason, whole_reply}
use Rattle.vx_plan.proofs.Laws.{bound-law}
use Rattle.vx_trace.specs.Text.{IsByteTransfer}
use Rattle.vx_rules.specs.Table.{Link}
use Rattle.vx_rules.specs.State.{Pending, Tables, pending_at}
use Rattle.vx_rules.specs.Calls.{proc_of, is_bus_call, asks_dial, bytes_of, is_big}
use Rattle.vx_rules.specs.Docmd.{Command, BusStatus, command_of, command_task, number_in, takes_input, takes_number, SendCommand, AtnControl, RenControl, PassControl, BusAddress, IfcControl}
use Rattle.vx_rules.specs.Checks.{NamedLink, NoLink, DeadLink, OnLink, named_link, is_interface, check_command, check_on, check}
use Rattle.vx_rules.specs.Effects.{task_on, task_of, stopped_reply, create, effect}
use Rattle.vx_rules.specs.Decide.{BusInput, is_nothing, level_fits}
use Rattle.vx_rules.proofs.Laws.{bus-job, few_bytes}
use Rattle.vx_flow.specs.InterleavedState.{Turn, InterleavedState, turn_of, moves_of}
use Rattle.vx_flow.specs.InterleavedStep.{job_of, wire_for, bus_input}
use Rattle.vx_flow.specs.Sound.{Stands, TurnStands, IsSound}
use Rattle.vx_flow.specs.Does.{IsStill, Stops, IsClear, IsDialed, HasTurn, IsDone, AnsweredBy, ByAbort, ByNoLink, ByCheck, ByBar, ByDialUp, ByDialDown, ByEffect, ByNoRole, ByFault, ByWhole, ByTimeout}
use Rattle.vx_flow.proofs.Laws.{turn-is, turn-own}
use Rattle.vx_flow.proofs.Laws.Jobs.{job-link}
use Rattle.vx_flow.proofs.Laws.Making.{nothing-is}
use Rattle.vx_exchange.specs.Doing.{reply_error}
use Rattle.vx_history.specs.CheckState.{tells_level, bus_status, selects_level}
use Rattle.vx_history.specs.Saying.{ends_turn, level_in}

-- ---- what transfers give

puts-few : (ts : List Transfer) → puts_made ts ≤ length ts
puts-few ts = count_by-le-length is_put ts

gots-few : (ts : List Transfer) → length (bytes_got ts) ≤ length ts
gots-few [] = omega arith
gots-few (t ∷ ts) = by (got_of t) (gots-few ts) where
  by : (o : Option (ℕ × Bool)) → length (bytes_got ts) ≤ length ts → length (map (λ (g : ℕ × Bool). g.0) (cons_option o (gots ts))) ≤ length (t ∷ ts)
  by None h = omega arith
  by (Some g) h = omega arith

-- a byte that was found is one
abbrev IsSmall : Option (ℕ × Bool) → Type 0
IsSmall None = Unit {0}
IsSmall (Some g) = g.0 < 256

last-small : (found : Option (ℕ × Bool)) (ts : List Transfer) → IsSmall found → All IsByteTransfer ts → IsSmall (last_of found (gots ts))
last-small found [] small bytes = small
last-small found (transfer.Got b end ∷ ts) small bytes =
    last-small (Some (b, end)) ts (All-head IsByteTransfer (transfer.Got b end) ts bytes) (All-tail IsByteTransfer (transfer.Got b end) ts bytes)
last-small found (t ∷ ts) small bytes = last-small found ts small (All-tail IsByteTransfer _ ts bytes)

status-small : (ts : List Transfer) → All IsByteTransfer ts → status_got ts < 256
status-small ts bytes = by (last_got ts) (last-small None ts tt bytes) where
  by : (o : Option (ℕ × Bool)) → IsSmall o → option_map_or (λ (g : ℕ × Bool). g.0) o 0 < 256
  by None h = omega arith
  by (Some g) h = h

-- ---- errors

-- an error that neither a fault of the bus nor the time of a turn gives
record Plain (e : ErrorCode) : Type 0 where
  not_fault : same_error e code.BusFault ≡ false
  not_end : ends_turn (error_number e) ≡ false

some-plain : (d e : ErrorCode) → Plain d → Some d ≡ Some e → Plain e
some-plain d e p h = subst Plain (same_Some d e h) p

parameter : Plain code.Parameter
parameter = record { not_fault = refl; not_end = refl }

unsupported : Plain code.NotSupported
unsupported = record { not_fault = refl; not_end = refl }

command-plain : (t : Tables) (own : ℕ) (big : Bool) (bytes : List ℕ) (o : Option Command) (e : ErrorCode) → check_command t own big bytes o ≡ Some e → Plain e
command-plain t own big bytes None e h = some-plain code.NotSupported e unsupported h
command-plain t own big bytes (Some c) e h = by (takes_input c own t.links big bytes) h where
  by : (b : Bool) → cond b None (Some code.Parameter) ≡ Some e → Plain e
  by true x = cc
  by false x = some-plain code.Parameter e parameter x

on-plain : (t : Tables) (own : ℕ) (l : Link) (c : Call) (e : ErrorCode) → is_bus_call c ≡ true → check_on t own l c ≡ Some e → Plain e
on-plain t own l (call.Write lid io_timeout lock_timeout flags bytes) e bus h = by _ h where
  by : (b : Bool) → cond b None (Some code.Parameter) ≡ Some e → Plain e
  by true x = cc
  by false x = some-plain code.Parameter e parameter x
on-plain t own l (call.ReadStb generic) e bus h = by _ h where
  by : (b : Bool) → cond b (Some code.NotSupported) None ≡ Some e → Plain e
  by true x = some-plain code.NotSupported e unsupported x
  by false x = cc
on-plain t own l (call.Docmd lid flags io_timeout lock_timeout cmd big size bytes) e bus h = by (is_interface l.target) h where
  by : (b : Bool) → cond b (check_command t own big bytes (command_of cmd)) (Some code.NotSupported) ≡ Some e → Plain e
  by true x = command-plain t own big bytes (command_of cmd) e x
  by false x = some-plain code.NotSupported e unsupported x
on-plain t own l (call.Unlock lid) e bus h = absurd (false≢true bus)
on-plain t own l _ e bus h = absurd (cc)

none-plain : (t : Tables) (own conn : ℕ) (settling : Bool) (c : Call) (e : ErrorCode) → is_bus_call c ≡ true → check t own conn settling NoLink c ≡ Some e → Plain e
none-plain t own conn settling (call.CreateLink client lock lock_timeout device) e bus h = absurd (false≢true bus)
none-plain t own conn settling (call.CreateIntr host port prog vers family) e bus h = absurd (false≢true bus)
none-plain t own conn settling call.DestroyIntr e bus h = absurd (false≢true bus)
none-plain t own conn settling _ e bus h = absurd (cc)

check-plain : (t : Tables) (own conn : ℕ) (settling : Bool) (about : NamedLink) (c : Call) (e : ErrorCode) → is_bus_call c ≡ true
    → check t own conn settling about c ≡ Some e → Plain e
check-plain t own conn settling NoLink c e bus h = none-plain t own conn settling c e bus h
check-plain t own conn settling DeadLink c e bus h = some-plain code.InvalidLink e (record { not_fault = refl; not_end = refl }) h
check-plain t own conn settling (OnLink l) c e bus h = on-plain t own l c e bus h

-- ---- replies of calls that were stopped

stopped-form : (c : Call) (e : ErrorCode) (ts : List Transfer) → form_of (proc_of c) ≡ reply_form (stopped_reply c e ts)
stopped-form call.Null e ts = refl
stopped-form _ e ts = refl

stopped-level : (c : Call) (e : ErrorCode) (ts : List Transfer) → level_in (stopped_reply c e ts) ≡ false
stopped-level call.Null e ts = refl
stopped-level _ e ts = refl

stopped-fault : (c : Call) (e : ErrorCode) (ts : List Transfer) → same_error e code.BusFault ≡ false → same_error (reply_error (stopped_reply c e ts)) code.BusFault ≡ false
stopped-fault call.Null e ts h = refl
stopped-fault _ e ts h = h

stopped-error : (c : Call) (e : ErrorCode) (ts : List Transfer) → is_bus_call c ≡ true → reply_error (stopped_reply c e ts) ≡ e
stopped-error call.Null e ts h = absurd (false≢true h)
stopped-error _ e ts h = refl

stopped-fits : (c : Call) (e : ErrorCode) (ts : List Transfer) → length ts < 2 ^ 32 → ReplyFits (stopped_reply c e ts)
stopped-fits call.Null e ts few = tt
stopped-fits (call.CreateLink client lock lock_timeout device) e ts few = (number-small e, (omega arith, (omega arith, (omega arith, tt))))
stopped-fits (call.Write lid io_timeout lock_timeout flags bytes) e ts few = (number-small e, (omega (arith, puts-few ts), tt))
stopped-fits (call.Read lid request io_timeout lock_timeout flags term) e ts few =
    (number-small e, (omega arith, ((omega (arith, gots-few ts), omega (arith, gots-few ts)), tt)))
stopped-fits (call.ReadStb generic) e ts few = (number-small e, (omega arith, tt))
stopped-fits (call.Docmd lid flags io_timeout lock_timeout cmd big size bytes) e ts few = (number-small e, ((omega arith, omega arith), tt))
stopped-fits _ e ts few = (number-small e, tt)

-- ---- replies of turns that are whole

-- what the reply of a whole turn says
record WholeSays (c : Call) (w : Wire) (level : Bool) (ts : List Transfer) (job : Task) : Type 0 where
  form : form_of (proc_of c) ≡ reply_form (whole_reply job (bytes_of c) w (is_big c) level ts)
  fits : ReplyFits (whole_reply job (bytes_of c) w (is_big c) level ts)
  error_is : reply_error (whole_reply job (bytes_of c) w (is_big c) level ts) ≡ code.Ok
  level_is : (tells_level c && level_in (whole_reply job (bytes_of c) w (is_big c) level ts)) ≡ level

-- a level that nothing tells is off
untold : (level : Bool) → (not level || false) ≡ true → level ≡ false
untold true h = absurd (false≢true h)
untold false h = refl

-- what is shown of the job that a call has holds of the job itself
by-job : (c : Call) (w : Wire) (level : Bool) (ts : List Transfer) (j job : Task) → Some j ≡ Some job → level_fits job level ≡ true
    → (level_fits j level ≡ true → WholeSays c w level ts j) → WholeSays c w level ts job
by-job c w level ts j job is fits says =
    let same = same_Some j job is in
    subst (WholeSays c w level ts) same (says (ap (λ x. level_fits x level) same ∙ fits))

reason-small : (max : ℕ) (stop : Option ℕ) (ts : List Transfer) → read_reason max stop ts < 2 ^ 32
reason-small max stop ts = by _ _ _ where
  by : (a b c : Bool) → cond a 1 0 + cond b 2 0 + cond c 4 0 < 2 ^ 32
  by true true true = omega arith
  by true true false = omega arith
  by true false true = omega arith
  by true false false = omega arith
  by false true true = omega arith
  by false true false = omega arith
  by false false true = omega arith
  by false false false = omega arith

two-long : (big : Bool) (n : ℕ) → length (two_bytes big n) ≡ 2
two-long true n = refl
two-long false n = refl

-- the level that a bus status tells is the one that was told
status-level : (big level : Bool) (n : ℕ) (w : Wire) → (not level || ((n == 2) || (n == 3))) ≡ true
    → (selects_level n && level_in (reply.Docmd code.Ok (two_bytes big (status_number n w level)))) ≡ level
status-level big level n w fits = by (n == 2) (n == 3) refl refl fits where
  told-so : (big level : Bool) → list_any (λ (b : ℕ). not (b == 0)) (two_bytes big (flag_number level)) ≡ level
  told-so true true = refl
  told-so true false = refl
  told-so false true = refl
  told-so false false = refl

  at : (m : ℕ) → (n == m) ≡ true → (selects_level m && level_in (reply.Docmd code.Ok (two_bytes big (status_number m w level)))) ≡ level
      → (selects_level n && level_in (reply.Docmd code.Ok (two_bytes big (status_number n w level)))) ≡ level
  at m e h = subst (λ k. (selects_level k && level_in (reply.Docmd code.Ok (two_bytes big (status_number k w level)))) ≡ level) (sym (eqb-true n m e)) h

  none : (x : Bool) → (n == 2) ≡ false → (n == 3) ≡ false → (((n == 2) || (n == 3)) && x) ≡ false
  none x e f = ap (λ b. (b || (n == 3)) && x) e ∙ ap (λ b. b && x) f

  by : (two three : Bool) → (n == 2) ≡ two → (n == 3) ≡ three → (not level || (two || three)) ≡ true
      → (selects_level n && level_in (reply.Docmd code.Ok (two_bytes big (status_number n w level)))) ≡ level
  by true three e f h = at 2 e (told-so big level)
  by false true e f h = at 3 f (told-so big level)
  by false false e f h = none _ e f ∙ sym (untold level h)

-- whether a command is the bus status
abbrev is_status : Option Command → Bool
is_status (Some BusStatus) = true
is_status _ = false

-- the commands behind it aren't
other-commands : (c d e f g : Bool)
    → is_status (cond c (Some AtnControl) (cond d (Some RenControl) (cond e (Some PassControl) (cond f (Some BusAddress) (cond g (Some IfcControl) None))))) ≡ false
other-commands true d e f g = refl
other-commands false true e f g = refl
other-commands false false true f g = refl
other-commands false false false true g = refl
other-commands false false false false true = refl
other-commands false false false false false = refl

-- the bus status is the command of its number
status-command : (cmd : ℕ) → (cmd == bus_status) ≡ is_status (command_of cmd)
status-command cmd = by (cmd == 0x020000) (cmd == 0x020001) refl refl where
  at : (n : ℕ) → (cmd == n) ≡ true → (n == bus_status) ≡ is_status (command_of n) → (cmd == bus_status) ≡ is_status (command_of cmd)
  at n e h = subst (λ k. (k == bus_status) ≡ is_status (command_of k)) (sym (eqb-true cmd n e)) h

  rest : Option Command
  rest =
      cond (cmd == 0x020002) (Some AtnControl)
      (cond (cmd == 0x020003) (Some RenControl) (cond (cmd == 0x020004) (Some PassControl) (cond (cmd == 0x02000A) (Some BusAddress) (cond (cmd == 0x020010) (Some IfcControl) None))))

  by : (send status : Bool) → (cmd == 0x020000) ≡ send → (cmd == 0x020001) ≡ status → (cmd == bus_status) ≡ is_status (command_of cmd)
  by true status e f = at 0x020000 e refl
  by false true e f = at 0x020001 f refl
  by false false e f =
      f ∙ sym (ap (λ b. is_status (cond b (Some SendCommand) (cond (cmd == 0x020001) (Some BusStatus) rest))) e ∙ ap (λ b. is_status (cond b (Some BusStatus) rest)) f
      ∙ other-commands (cmd == 0x020002) (cmd == 0x020003) (cmd == 0x020004) (cmd == 0x02000A) (cmd == 0x020010))

-- whether a command with this input tells a level
abbrev asks_level : Option Command → Bool → List ℕ → Bool
asks_level o big bytes = is_status o && ((length bytes == 2) && selects_level (number_in big bytes))

-- the bytes of a bus status that its checks let pass are two
status-two : (t : Tables) (own : ℕ) (on : Bool) (big : Bool) (bytes : List ℕ)
    → cond on (check_command t own big bytes (Some BusStatus)) (Some code.NotSupported) ≡ None → (length bytes == 2) ≡ true
status-two t own true big bytes h =
    (and_parts (length bytes == 2) (takes_number BusStatus own t.links (number_in big bytes)) (passes (takes_input BusStatus own t.links big bytes) code.Parameter h)).0
status-two t own false big bytes h = cc

docmd-whole : (t : Tables) (own : ℕ) (l : Link) (lid flags io_timeout lock_timeout cmd : ℕ) (big : Bool) (size : ℕ) (bytes : List ℕ) (job : Task) (w : Wire) (level : Bool)
    (ts : List Transfer) → task_on l.target (call.Docmd lid flags io_timeout lock_timeout cmd big size bytes) ≡ Some job
    → check_on t own l (call.Docmd lid flags io_timeout lock_timeout cmd big size bytes) ≡ None → level_fits job level ≡ true
    → WholeSays (call.Docmd lid flags io_timeout lock_timeout cmd big size bytes) w level ts job
docmd-whole t own l lid flags io_timeout lock_timeout cmd big size bytes job w level ts is checked fits = by (command_of cmd) refl is checked where
  c : Call
  c = call.Docmd lid flags io_timeout lock_timeout cmd big size bytes

  few : length bytes ≤ WRITE_MAX
  few = few_bytes t own l c checked

  tells : tells_level c ≡ asks_level (command_of cmd) big bytes
  tells = ap (λ b. b && ((length bytes == 2) && selects_level (number_in big bytes))) (status-command cmd)

  -- a command that is no bus status tells no level
  quiet : (o : Option Command) → command_of cmd ≡ o → ((x : Bool) → (asks_level o big bytes && x) ≡ false) → (x : Bool) → level ≡ false → (tells_level c && x) ≡ level
  quiet o e none x off = ap (λ b. b && x) tells ∙ ap (λ k. asks_level k big bytes && x) e ∙ none x ∙ sym off

  bytes_fit : ReplyFits (reply.Docmd code.Ok bytes)
  bytes_fit = (number-small code.Ok, ((omega (arith, few), omega (arith, few)), tt))

  by : (o : Option Command) → command_of cmd ≡ o → option_map (λ k. command_task k big bytes) o ≡ Some job
      → cond (is_interface l.target) (check_command t own big bytes o) (Some code.NotSupported) ≡ None → WholeSays c w level ts job
  by None e h k = cc
  by (Some BusStatus) e h k =
      let n = number_in big bytes in
      by-job c w level ts (task.Status n) job h fits (λ fits. record {
        form = refl;
        fits = (number-small code.Ok, ((omega (arith, two-long big (status_number n w level)), omega (arith, two-long big (status_number n w level))), tt));
        error_is = refl;
        level_is =
            ap (λ b. b && level_in (reply.Docmd code.Ok (two_bytes big (status_number n w level)))) tells
            ∙ ap (λ o. asks_level o big bytes && level_in (reply.Docmd code.Ok (two_bytes big (status_number n w level)))) e
            ∙ ap (λ b. (b && selects_level n) && level_in (reply.Docmd code.Ok (two_bytes big (status_number n w level)))) (status-two t own (is_interface l.target) big bytes k)
            ∙ status-level big level n w fits;
      })
  by (Some other) e h k = by-job c w level ts (command_task other big bytes) job h fits
      (λ fits. record { form = refl; fits = bytes_fit; error_is = refl; level_is = quiet (Some other) e (λ x. refl) _ (untold level fits) })

whole-says : (t : Tables) (own : ℕ) (l : Link) (c : Call) (job : Task) (w : Wire) (level : Bool) (ts : List Transfer) → task_on l.target c ≡ Some job
    → check_on t own l c ≡ None → level_fits job level ≡ true → length ts < 2 ^ 32 → All IsByteTransfer ts → WholeSays c w level ts job
whole-says t own l (call.Write lid io_timeout lock_timeout flags bytes) job w level ts is checked fits few small =
    let within = few_bytes t own l (call.Write lid io_timeout lock_timeout flags bytes) checked in
    by-job (call.Write lid io_timeout lock_timeout flags bytes) w level ts _ job is fits
    (λ fits. record { form = refl; fits = (number-small code.Ok, (omega (arith, within), tt)); error_is = refl; level_is = sym (untold level fits) })
whole-says t own l (call.Read lid request io_timeout lock_timeout flags term) job w level ts is checked fits few small =
    by-job (call.Read lid request io_timeout lock_timeout flags term) w level ts _ job is fits (λ fits. record {
      form = refl;
      fits = (number-small code.Ok, (reason-small _ _ ts, ((omega (arith, gots-few ts), omega (arith, gots-few ts)), tt)));
      error_is = refl;
      level_is = sym (untold level fits);
    })
whole-says t own l (call.ReadStb generic) job w level ts is checked fits few small =
    by-job (call.ReadStb generic) w level ts _ job is fits
    (λ fits. record { form = refl; fits = (number-small code.Ok, (status-small ts small, tt)); error_is = refl; level_is = sym (untold level fits) })
whole-says t own l (call.Trigger generic) job w level ts is checked fits few small = by-job (call.Trigger generic) w level ts _ job is fits
    (λ fits. record { form = refl; fits = (number-small code.Ok, tt); error_is = refl; level_is = sym (untold level fits) })
whole-says t own l (call.Clear generic) job w level ts is checked fits few small = by-job (call.Clear generic) w level ts _ job is fits
    (λ fits. record { form = refl; fits = (number-small code.Ok, tt); error_is = refl; level_is = sym (untold level fits) })
whole-says t own l (call.Remote generic) job w level ts is checked fits few small = by-job (call.Remote generic) w level ts _ job is fits
    (λ fits. record { form = refl; fits = (number-small code.Ok, tt); error_is = refl; level_is = sym (untold level fits) })
whole-says t own l (call.Local generic) job w level ts is checked fits few small = by-job (call.Local generic) w level ts _ job is fits
    (λ fits. record { form = refl; fits = (number-small code.Ok, tt); error_is = refl; level_is = sym (untold level fits) })
whole-says t own l (call.Docmd lid flags io_timeout lock_timeout cmd big size bytes) job w level ts is checked fits few small =
    docmd-whole t own l lid flags io_timeout lock_timeout cmd big size bytes job w level ts is checked fits
whole-says t own l _ job w level ts is checked fits few small = cc

-- ---- replies of calls that need neither the bus nor a dial

-- what the reply of an effect says
record EffectSays (c : Call) (told : Reply) : Type 0 where
  form : form_of (proc_of c) ≡ reply_form told
  fits : ReplyFits told
  error_is : reply_error told ≡ code.Ok
  level_is : level_in told ≡ false

-- what is shown of the reply of an effect holds of what was told
by-effect : (c : Call) (given told : Reply) (t after : Tables) → ◌≡◌ {A = Option (Reply × Tables)} (Some (given, t)) (Some (told, after)) → EffectSays c given → EffectSays c told
by-effect c given told t after is says = subst (EffectSays c) (some_pair_parts given told t after is).0 says

ok-fits : ReplyFits (reply.Error code.Ok)
ok-fits = (number-small code.Ok, tt)

effect-says : (t : Tables) (own conn : ℕ) (about : NamedLink) (c : Call) (told : Reply) (after : Tables) → t.links.next < 2 ^ 32 → t.abort_port < 2 ^ 32
    → effect t own conn about c ≡ Some (told, after) → EffectSays c told
effect-says t own conn (OnLink l) (call.Lock lid flags lock_timeout) told after next port is =
    by-effect _ _ told _ after is (record { form = refl; fits = ok-fits; error_is = refl; level_is = refl })
effect-says t own conn (OnLink l) (call.Unlock lid) told after next port is =
    by-effect _ _ told _ after is (record { form = refl; fits = ok-fits; error_is = refl; level_is = refl })
effect-says t own conn (OnLink l) (call.EnableSrq lid enable handle) told after next port is =
    by-effect _ _ told _ after is (record { form = refl; fits = ok-fits; error_is = refl; level_is = refl })
effect-says t own conn (OnLink l) (call.DestroyLink lid) told after next port is =
    by-effect _ _ told _ after is (record { form = refl; fits = ok-fits; error_is = refl; level_is = refl })
effect-says t own conn (OnLink l) _ told after next port is = cc
effect-says t own conn DeadLink c told after next port is = cc
effect-says t own conn NoLink (call.CreateLink client lock lock_timeout device) told after next port is = by (target device own) is where
  by : (o : Result Target ErrorCode) → create t conn lock o ≡ Some (told, after) → EffectSays (call.CreateLink client lock lock_timeout device) told
  by (Ok named) h = by-effect _ _ told _ after h
      (record { form = refl; fits = (number-small code.Ok, (next, (port, (omega arith, tt)))); error_is = refl; level_is = refl })
  by (Err error) h = cc
effect-says t own conn NoLink call.DestroyIntr told after next port is =
    by-effect _ _ told _ after is (record { form = refl; fits = ok-fits; error_is = refl; level_is = refl })
effect-says t own conn NoLink _ told after next port is = cc

-- ---- the turn of a connection's own call

-- whether it is under way
abbrev pub has_own : InterleavedState → ℕ → Bool
has_own f conn = is_some (turn_of f.turn conn)

-- what holds of an interleaved state, with the transfers of its turn, which are bytes, and its port
pub record IsBounded (f : InterleavedState) : Type 0 where
  pub sound : IsSound f
  pub bytes : (u : Turn) → f.turn ≡ Some u → All IsByteTransfer u.moves
  pub port : f.state.tables.abort_port < 2 ^ 32

own-turn : (f : InterleavedState) (conn : ℕ) → has_own f conn ≡ true → (u : Turn) × (turn_of f.turn conn ≡ Some u)
own-turn f conn h = by (turn_of f.turn conn) refl h where
  by : (o : Option Turn) → turn_of f.turn conn ≡ o → is_some o ≡ true → (u : Turn) × (turn_of f.turn conn ≡ Some u)
  by None e h = absurd (false≢true h)
  by (Some u) e h = (u, e)

-- what holds of it
pub stands-own : (f : InterleavedState) (u : Turn) → IsSound f → f.turn ≡ Some u → Stands f.state.tables f.before f.state.wire f.state.moment u
stands-own f u sound is = subst (TurnStands f.state.tables f.before f.state.wire f.state.moment) is sound.turn_stands

-- it is that of a bus call
pub own-bus : (f : InterleavedState) (conn : ℕ) (p : Pending) → IsSound f → pending_at f.state.tables conn ≡ Some p → has_own f conn ≡ true → is_bus_call p.call ≡ true
own-bus f conn p sound at h =
    let own = own-turn f conn h in
    let parts = turn-is f.turn conn own.0 own.1 in
    let st = stands-own f own.0 sound parts.0 in
    let same : st.asked ≡ p = same_Some st.asked p (sym st.call_at ∙ ap (pending_at f.state.tables) parts.1 ∙ at) in
    ap (λ (q : Pending). is_bus_call q.call) (sym same) ∙ bus-job st.link.target st.asked.call st.job st.has_job

turn-few : (t : Tables) (before now : Wire) (m : ℕ) (u : Turn) → Stands t before now m u → length u.moves ≤ TURN_MAX
turn-few t before now m u st = by (is_nothing u.moves) refl where
  by : (b : Bool) → is_nothing u.moves ≡ b → length u.moves ≤ TURN_MAX
  by true e = let none : length u.moves ≡ 0 = ap length (nothing-is u.moves e) in omega (arith, none)
  by false e =
      bound-law st.job (bytes_of st.asked.call) before.polling before.own u.moves
      (few_bytes t before.own st.link st.asked.call (st.passes e).checked) st.on_plan

moves-few : (f : InterleavedState) (conn : ℕ) → IsSound f → length (moves_of (turn_of f.turn conn)) < 2 ^ 32
moves-few f conn sound = by (turn_of f.turn conn) refl where
  by : (o : Option Turn) → turn_of f.turn conn ≡ o → length (moves_of o) < 2 ^ 32
  by None e = omega arith
  by (Some u) e =
      let few = turn-few f.state.tables f.before f.state.wire f.state.moment u (stands-own f u sound (turn-is f.turn conn u e).0) in
      omega (arith, few)

-- ---- answers

-- what an answer tells of itself
pub record TellsOf (f : InterleavedState) (conn : ℕ) (p : Pending) (failed : Bool) (dialed : Option Bool) (level : Bool) (told : Reply) : Type 0 where
  pub form : form_of (proc_of p.call) ≡ reply_form told
  pub fits : ReplyFits told
  pub failed_is : (same_error (reply_error told) code.BusFault && has_own f conn) ≡ failed
  pub level_is : (tells_level p.call && level_in told) ≡ level
  pub in_turn : (is_bus_call p.call && ends_turn (error_number (reply_error told)) && not (has_own f conn)) ≡ false
  pub dialed_so : (up : Bool) → dialed ≡ Some up → asks_dial p.call ≡ true

-- an error that only a turn gives is one of a turn, whatever the call
turn-with : (c : Call) (e : ErrorCode) (ts : List Transfer) (own : Bool) → (is_bus_call c ≡ true → (ends_turn (error_number e) && not own) ≡ false)
    → (is_bus_call c && ends_turn (error_number (reply_error (stopped_reply c e ts))) && not own) ≡ false
turn-with c e ts own h = by (is_bus_call c) refl where
  by : (b : Bool) → is_bus_call c ≡ b → (b && ends_turn (error_number (reply_error (stopped_reply c e ts))) && not own) ≡ false
  by false is = refl
  by true is = ap (λ r. ends_turn (error_number r) && not own) (stopped-error c e ts is) ∙ h is

-- a call that was stopped
stopped-tells : (f : InterleavedState) (conn : ℕ) (p : Pending) (failed : Bool) (e : ErrorCode) (ts : List Transfer) → length ts < 2 ^ 32
    → (same_error (reply_error (stopped_reply p.call e ts)) code.BusFault && has_own f conn) ≡ failed
    → (is_bus_call p.call ≡ true → (ends_turn (error_number e) && not (has_own f conn)) ≡ false)
    → TellsOf f conn p failed None false (stopped_reply p.call e ts)
stopped-tells f conn p failed e ts few fails ends = record {
  form = stopped-form p.call e ts;
  fits = stopped-fits p.call e ts few;
  failed_is = fails;
  level_is = and_right (tells_level p.call) _ (stopped-level p.call e ts);
  in_turn = turn-with p.call e ts (has_own f conn) ends;
  dialed_so = λ up h. cc;
}

-- a call that was refused, with an error that a turn doesn't give
refused-tells : (f : InterleavedState) (conn : ℕ) (p : Pending) (e : ErrorCode) (ts : List Transfer) → IsSound f → pending_at f.state.tables conn ≡ Some p → length ts < 2 ^ 32
    → (is_bus_call p.call ≡ true → Plain e) → TellsOf f conn p false None false (stopped_reply p.call e ts)
refused-tells f conn p e ts sound at few plain =
    stopped-tells f conn p false e ts few (by (has_own f conn) refl) (λ bus. and_left _ _ (plain bus).not_end)
  where
    by : (b : Bool) → has_own f conn ≡ b → (same_error (reply_error (stopped_reply p.call e ts)) code.BusFault && b) ≡ false
    by false is = and_right _ false refl
    by true is = and_left _ true (stopped-fault p.call e ts (plain (own-bus f conn p sound at is)).not_fault)

-- a still answer is told as one
still-tells : (f : InterleavedState) (conn : ℕ) (p : Pending) (o : BusInput) (told : Reply) → IsStill o → TellsOf f conn p false None false told
    → TellsOf f conn p o.failed o.dialed o.level told
still-tells f conn p o told still h =
    subst (λ failed. TellsOf f conn p failed o.dialed o.level told) (sym still.held)
    (subst (λ dialed. TellsOf f conn p false dialed o.level told) (sym still.undialed)
    (subst (λ level. TellsOf f conn p false None level told) (sym still.untold) h))

-- a dial that was settled
dial-tells : (f : InterleavedState) (conn : ℕ) (p : Pending) (o : BusInput) (up : Bool) (e : ErrorCode) → IsDialed f conn p o up
    → same_error e code.BusFault ≡ false → TellsOf f conn p o.failed o.dialed o.level (reply.Error e)
dial-tells f conn p o up e d fault =
    subst (λ failed. TellsOf f conn p failed o.dialed o.level (reply.Error e)) (sym d.held)
    (subst (λ level. TellsOf f conn p false o.dialed level (reply.Error e)) (sym d.untold) (record {
      form = ap (λ c. form_of (proc_of c)) d.asks;
      fits = (number-small e, tt);
      failed_is = and_left _ (has_own f conn) fault;
      level_is = and_right (tells_level p.call) false refl;
      in_turn = ap (λ c. is_bus_call c && ends_turn (error_number e) && not (has_own f conn)) d.asks;
      dialed_so = λ u h. ap asks_dial d.asks;
    }))

-- the check of a call that is clear to go on, on its link
clear-check : (f : InterleavedState) (conn now : ℕ) (p : Pending) (l : Link) → IsClear f conn false p now → named_link f.state.tables conn p.call ≡ OnLink l
    → check_on f.state.tables (wire_for f conn).own l p.call ≡ None
clear-check f conn now p l clear on =
    subst (λ about. check f.state.tables (wire_for f conn).own conn false about p.call ≡ None) on clear.admitted.checked

-- the own turn is under way
has-turn : (f : InterleavedState) (conn : ℕ) (p : Pending) (h : HasTurn f conn p) → turn_of f.turn conn ≡ Some h.turn
has-turn f conn p h = turn-own f.turn conn h.turn h.under_way h.of_call

-- the bus that the call is measured on is that of its turn's beginning
own-wire : (f : InterleavedState) (conn : ℕ) → has_own f conn ≡ true → wire_for f conn ≡ f.before
own-wire f conn h = ap (λ own. cond own f.before f.state.wire) h

whole-tells : (f : InterleavedState) (conn now : ℕ) (p : Pending) (o : BusInput) (told : Reply) (after : Tables) → IsBounded f → IsClear f conn false p now
    → (d : IsDone f conn p o told after) → TellsOf f conn p o.failed o.dialed o.level told
whole-tells f conn now p o told after b clear d =
    let t = f.state.tables in
    let own = has-turn f conn p d.own in
    let u = d.own.turn in
    let link = job-link (named_link t conn p.call) p.call d.own.job d.own.has_job in
    let few : length u.moves < 2 ^ 32 = subst (λ (x : Option Turn). length (moves_of x) < 2 ^ 32) own (moves-few f conn b.sound) in
    let says = whole-says t (wire_for f conn).own link.0 p.call d.own.job f.before o.level u.moves link.2 (clear-check f conn now p link.0 clear link.1) d.level_is few
    (b.bytes u d.own.under_way) in
    subst (TellsOf f conn p o.failed o.dialed o.level) (sym d.reply_is)
    (subst (λ failed. TellsOf f conn p failed o.dialed o.level (whole_reply d.own.job (bytes_of p.call) f.before (is_big p.call) o.level u.moves)) (sym d.held) (record {
      form = says.form;
      fits = says.fits;
      failed_is = ap (λ e. same_error e code.BusFault && has_own f conn) says.error_is;
      level_is = says.level_is;
      in_turn = and_right _ _ (ap (λ (x : Option Turn). not (is_some x)) own);
      dialed_so = λ up h. cc (d.undialed, h);
    }))

effect-tells : (f : InterleavedState) (conn : ℕ) (p : Pending) (o : BusInput) (told : Reply) (after : Tables) → IsBounded f → is_bus_call p.call ≡ false → IsStill o
    → effect f.state.tables (wire_for f conn).own conn (named_link f.state.tables conn p.call) p.call ≡ Some (told, after)
    → TellsOf f conn p o.failed o.dialed o.level told
effect-tells f conn p o told after b bus still h =
    let last = b.sound.tables.numbered.last in
    let says = effect-says f.state.tables (wire_for f conn).own conn (named_link f.state.tables conn p.call) p.call told after (omega (arith, last)) b.port h in
    still-tells f conn p o told still (record {
      form = says.form;
      fits = says.fits;
      failed_is = ap (λ e. same_error e code.BusFault && has_own f conn) says.error_is;
      level_is = and_right (tells_level p.call) _ says.level_is;
      in_turn = ap (λ x. x && ends_turn (error_number (reply_error told)) && not (has_own f conn)) bus;
      dialed_so = λ up h. cc;
    })

-- the gateway hasn't the role, and so no turn of the call is under way
roleless : (f : InterleavedState) (conn : ℕ) (p : Pending) (job : Task) → IsSound f → pending_at f.state.tables conn ≡ Some p → job_of f.state.tables conn p ≡ Some job
    → has_role job (wire_for f conn) ≡ false → has_own f conn ≡ false
roleless f conn p job sound at is out = by (has_own f conn) refl where
  by : (b : Bool) → has_own f conn ≡ b → b ≡ false
  by false e = refl
  by true e =
      let own = own-turn f conn e in
      let parts = turn-is f.turn conn own.0 own.1 in
      let st = stands-own f own.0 sound parts.0 in
      let same : st.asked ≡ p = same_Some st.asked p (sym st.call_at ∙ ap (pending_at f.state.tables) parts.1 ∙ at) in
      let jobs : job_of f.state.tables conn p ≡ Some st.job =
      ap (job_of f.state.tables conn) (sym same) ∙ ap (λ n. job_of f.state.tables n st.asked) (sym parts.1) ∙ ap (λ about. task_of about st.asked.call) st.on_link ∙ st.has_job in
      let one : job ≡ st.job = same_Some job st.job (sym is ∙ jobs) in
      absurd (false≢true (sym out ∙ ap (has_role job) (own-wire f conn e) ∙ ap (λ j. has_role j f.before) one ∙ st.in_role))

-- each line's answer tells so much of itself
pub answer-tells : (f : InterleavedState) (conn now : ℕ) (p : Pending) (failed : Bool) (dialed : Option Bool) (level : Bool) (told : Reply) (after : Tables) → IsBounded f
    → pending_at f.state.tables conn ≡ Some p → AnsweredBy f conn now p (bus_input f conn failed dialed level) told after → TellsOf f conn p failed dialed level told
answer-tells f conn now p failed dialed level told after b at line = by line where
  t : Tables
  t = f.state.tables

  o : BusInput
  o = bus_input f conn failed dialed level

  few : length o.moves < 2 ^ 32
  few = moves-few f conn b.sound

  refuses : (e : ErrorCode) → IsStill o → Stops f p o e told after → (is_bus_call p.call ≡ true → Plain e) → TellsOf f conn p failed dialed level told
  refuses e still stops plain =
      still-tells f conn p o told still (subst (TellsOf f conn p false None false) (sym stops.reply_is) (refused-tells f conn p e o.moves b.sound at few plain))

  by : AnsweredBy f conn now p o told after → TellsOf f conn p failed dialed level told
  by (ByAbort marked still stops) = refuses code.Abort still stops (λ bus. record { not_fault = refl; not_end = refl })
  by (ByNoLink unmarked dead still stops) = refuses code.InvalidLink still stops (λ bus. record { not_fault = refl; not_end = refl })
  by (ByCheck e unmarked live checked still stops) =
      refuses e still stops (λ bus. check-plain t (wire_for f conn).own conn false (named_link t conn p.call) p.call e bus checked)
  by (ByBar bar unmarked checked kept waits still stops) = refuses code.Locked still stops (λ bus. record { not_fault = refl; not_end = refl })
  by (ByDialUp clear d is leads) = subst (TellsOf f conn p failed dialed level) (sym is) (dial-tells f conn p o true code.Ok d refl)
  by (ByDialDown clear d is leads) =
      subst (TellsOf f conn p failed dialed level) (sym is) (dial-tells f conn p o false code.NoChannel d refl)
  by (ByEffect clear bus asks still h) = effect-tells f conn p o told after b bus still h
  by (ByNoRole job clear is out still stops) =
      let none = roleless f conn p job b.sound at is out in
      still-tells f conn p o told still (subst (TellsOf f conn p false None false) (sym stops.reply_is)
      (stopped-tells f conn p false code.BusFault o.moves few (and_right _ (has_own f conn) none) (λ bus. refl)))
  by (ByFault clear broken stops) =
      let own = has-turn f conn p broken.own in
      let has : has_own f conn ≡ true = ap is_some own in
      let link = job-link (named_link t conn p.call) p.call broken.own.job broken.own.has_job in
      let bus = bus-job link.0.target p.call broken.own.job link.2 in
      subst (TellsOf f conn p failed dialed level) (sym stops.reply_is)
      (subst (λ x. TellsOf f conn p x dialed level (stopped_reply p.call code.BusFault o.moves)) (sym broken.failed)
      (subst (λ x. TellsOf f conn p true x level (stopped_reply p.call code.BusFault o.moves)) (sym broken.undialed)
      (subst (λ x. TellsOf f conn p true None x (stopped_reply p.call code.BusFault o.moves)) (sym broken.untold)
      (stopped-tells f conn p true code.BusFault o.moves few
      (ap (λ e. same_error e code.BusFault && has_own f conn) (stopped-error p.call code.BusFault o.moves bus) ∙ has) (λ bus. refl)))))
  by (ByWhole clear d) = whole-tells f conn now p o told after b clear d
  by (ByTimeout clear late stops) =
      let own = has-turn f conn p late.own in
      let has : not (has_own f conn) ≡ false = ap (λ (x : Option Turn). not (is_some x)) own in
      still-tells f conn p o told late.still (subst (TellsOf f conn p false None false) (sym stops.reply_is)
      (stopped-tells f conn p false code.Timeout o.moves few (and_left _ (has_own f conn) (stopped-fault p.call code.Timeout o.moves refl)) (λ bus. has)))
