-- What is heard of a write that was answered without an error.
use Rattle.std.proofs.Common.{◌≡◌, ◌≢◌, ◌≤◌, ℕ, Bool, true, false, cond, ◌⊎◌, inl, inr, List, [], ◌∷◌, ◌++◌, Option, Some, None, refl, sym, ap, ◌∙◌, subst}
use Rattle.std.specs.Prelude.{is_none, nat_le, ◌||◌, length, if◌then◌else◌}
use Rattle.std.proofs.lemmas.Bool.{cases_Bool}
use Rattle.std.proofs.lemmas.Option.{same_Some}
use Rattle.vx_lemmas.proofs.Laws.Options.{mapped}
use Rattle.vx_calls.specs.declared.codes.ErrorCode.{ErrorCode}
use Rattle.vx_calls.specs.declared.codes.ErrorCode.TheVariants as code
use Rattle.vx_calls.specs.declared.limits.TheConstants.{WRITE_MAX}
use Rattle.vx_calls.specs.declared.targets.Target.TheVariants.{Interface, Device}
use Rattle.vx_calls.specs.Call.{Call}
use Rattle.vx_calls.specs.Call as call
use Rattle.vx_calls.specs.Reply.{Reply}
use Rattle.vx_calls.specs.Reply as reply
use Rattle.vx_488.specs.declared.transfers.TheConstants.{ADDRESS_MAX}
use Rattle.vx_488.specs.declared.transfers.Addr.{Addr}
use Rattle.vx_488.specs.declared.transfers.Transfer.{Transfer}
use Rattle.vx_488.specs.declared.wire.Wire.{Wire}
use Rattle.vx_488.specs.Address.{same_address}
use Rattle.vx_488.specs.Flags.{same_address-refl, same_address-equal}
use Rattle.vx_488.specs.Listening.{has_address}
use Rattle.vx_488.specs.Heard.{heard}
use Rattle.vx_plan.specs.declared.tasks.Task.{Task}
use Rattle.vx_plan.specs.declared.tasks.Task.TheVariants as task
use Rattle.vx_plan.specs.Plan.{Stand, Whole, Part, Off, stand}
use Rattle.vx_plan.specs.Tasks.{unl, mta, listener, ended_poll, puts, write_plan, IsTargetPlain}
use Rattle.vx_plan.specs.Roles.{has_role}
use Rattle.vx_plan.proofs.Laws.{whole-law}
use Rattle.vx_rules.specs.Table.{Link}
use Rattle.vx_rules.specs.Calls.{sets_end, has_passed}
use Rattle.vx_rules.specs.State.{Pending, Tables, State, pending_at, link_of}
use Rattle.vx_rules.specs.Checks.{link_found, named_link, check}
use Rattle.vx_rules.specs.Lines.{Refused, first_lines}
use Rattle.vx_rules.specs.Effects.{task_of, stopped_reply}
use Rattle.vx_rules.specs.Decide.{BusInput, is_quiet, stand_on, turn_answer, job_answer, bus_answer, settles, decide}
use Rattle.vx_flow.specs.Laws.{marked_bytes, HeardLaw, HeardOnInterfaceLaw}
use Rattle.vx_flow.proofs.Laws.Whom.{whole-just, heard-puts, heard-addressed}
use Rattle.vx_flow.proofs.Laws.ByLines.{first-refuses, Gives, ByRefusal, ByPassing, gives}
use Rattle.vx_flow.proofs.Laws.Making.{Answered, answer-parts}
use Rattle.vx_flow.proofs.Laws.Plain.{found-has, IsLinkPlain, legal-plain}

-- ---- a refusal is an error

-- the error of a write's reply
abbrev write_error : Reply → ErrorCode
write_error (reply.Write e n) = e
write_error _ = code.Abort

is_write : (e : ErrorCode) (n : ℕ) (r : Reply) → Some (reply.Write e n) ≡ Some r → write_error r ≡ code.Ok → e ≡ code.Ok
is_write e n r h ok = ap write_error (same_Some (reply.Write e n) r h) ∙ ok

abbrev IsError : Option ErrorCode → Type 0
IsError None = Unit {0}
IsError (Some e) = e ≢ code.Ok

locked_is : code.Locked ≢ code.Ok
locked_is e = cc

abort_is : code.Abort ≢ code.Ok
abort_is e = cc

parameter_is : code.Parameter ≢ code.Ok
parameter_is e = cc

invalid_is : code.InvalidLink ≢ code.Ok
invalid_is e = cc

fault_is : code.BusFault ≢ code.Ok
fault_is e = cc

timeout_is : code.Timeout ≢ code.Ok
timeout_is e = cc

-- ---- a write that is answered without an error made all its transfers

module _ (t : Tables) (w : Wire) (conn now : ℕ) (o : BusInput) (lid io_timeout lock_timeout flags : ℕ) (bytes : List ℕ) (arrival : ℕ) (aborted : Bool) where
  abbrev asked : Call
  asked = call.Write lid io_timeout lock_timeout flags bytes

  abbrev waiting : Pending
  waiting = record { call = asked; arrival = arrival; aborted = aborted }

  check-error : (own : ℕ) (settling : Bool) (o : Option Link) → IsError (check t own conn settling (link_found o) asked)
  check-error own settling None = invalid_is
  check-error own settling (Some l) = by (nat_le (length bytes) WRITE_MAX) where
    by : (b : Bool) → IsError (cond b None (Some code.Parameter))
    by true = tt
    by false = parameter_is

  -- the first lines refuse it with an error
  lines-refuse : (error : ErrorCode) → first_lines t w.own conn (settles o) waiting now ≡ Refused error → error ≢ code.Ok
  lines-refuse error h = by (first-refuses t None w.own conn (settles o) waiting now error h) where
    by : (error ≡ code.Abort) ⊎ ((check t w.own conn (settles o) (named_link t conn asked) asked ≡ Some error) ⊎ (error ≡ code.Locked)) → error ≢ code.Ok
    by (inl e) ok = abort_is (sym e ∙ ok)
    by (inr (inl e)) ok = subst IsError e (check-error w.own (settles o) (link_of t conn lid)) ok
    by (inr (inr e)) ok = locked_is (sym e ∙ ok)

  turn-whole : (job : Task) (s : Stand) (r : Reply) → write_error r ≡ code.Ok → turn_answer w waiting now o job s ≡ Some r → s ≡ Whole
  turn-whole job Whole r ok h = refl
  turn-whole job Off r ok h = cc
  turn-whole job Part r ok h = absurd (by o.level o.failed (has_passed io_timeout o.begun now) h) where
    by : (level failed passed : Bool)
        → cond level None (cond failed (Some (stopped_reply asked code.BusFault o.moves)) (cond passed (Some (stopped_reply asked code.Timeout o.moves)) None)) ≡ Some r → ⊥
    by true failed passed h = cc
    by false true passed h = fault_is (is_write code.BusFault _ r h ok)
    by false false true h = timeout_is (is_write code.Timeout _ r h ok)
    by false false false h = cc

  job-whole : (job : Task) (r : Reply) → write_error r ≡ code.Ok → job_answer w waiting now o job ≡ Some r → stand_on w asked job o.moves ≡ Whole
  job-whole job r ok h = by (has_role job w) (is_none o.dialed) (is_quiet o) h where
    by : (role none quiet : Bool)
        → cond role (cond none (turn_answer w waiting now o job (stand_on w asked job o.moves)) None) (cond quiet (Some (stopped_reply asked code.BusFault o.moves)) None) ≡ Some r
        → stand_on w asked job o.moves ≡ Whole
    by true true quiet h = turn-whole job (stand_on w asked job o.moves) r ok h
    by true false quiet h = cc
    by false none true h = absurd (fault_is (is_write code.BusFault _ r h ok))
    by false none false h = cc

  lines-whole : (job : Task) (d : Reply × Tables) → task_of (named_link t conn asked) asked ≡ Some job → write_error d.0 ≡ code.Ok
      → Gives t w conn waiting now o d (first_lines t w.own conn (settles o) waiting now) → stand_on w asked job o.moves ≡ Whole
  lines-whole job d is ok (ByRefusal error refused quiet told) = absurd (lines-refuse error refused (ap (λ x. write_error x.0) told ∙ ok))
  lines-whole job d is ok (ByPassing passed answers) =
      let told = mapped (λ (r : Reply). (r, t)) (bus_answer w waiting now o (task_of (named_link t conn asked) asked)) d answers in
      job-whole job told.0 (ap (λ x. write_error x.0) told.2 ∙ ok) (sym (ap (bus_answer w waiting now o) is) ∙ told.1)

  pub write-whole : (l : Link) (d : Reply × Tables) (size : ℕ) → link_of t conn lid ≡ Some l → decide t w conn waiting now o ≡ Some d → d.0 ≡ reply.Write code.Ok size
      → stand (write_plan l.target (sets_end flags) bytes w.polling w.own) o.moves ≡ Whole
  write-whole l d size on found told =
      lines-whole (task.Write l.target (length bytes) (sets_end flags)) d (ap (λ x. task_of (link_found x) asked) on) (ap write_error told)
      (gives t w conn waiting now o d (first_lines t w.own conn (settles o) waiting now) found)

-- the transfers of such an answer
answer-whole : (s t : State) (conn now begun : ℕ) (moves : List Transfer) (failed : Bool) (dialed : Option Bool) (level : Bool)
    (size lid io_timeout lock_timeout flags : ℕ) (bytes : List ℕ) (arrival : ℕ) (aborted : Bool) (l : Link)
    (a : Answered s t conn now (record { begun = begun; moves = moves; failed = failed; dialed = dialed; level = level }) (reply.Write code.Ok size))
    → pending_at s.tables conn ≡ Some (record { call = call.Write lid io_timeout lock_timeout flags bytes; arrival = arrival; aborted = aborted })
    → link_of s.tables conn lid ≡ Some l → stand (write_plan l.target (sets_end flags) bytes s.wire.polling s.wire.own) moves ≡ Whole
answer-whole s t conn now begun moves failed dialed level size lid io_timeout lock_timeout flags bytes arrival aborted l a at on =
    let o : BusInput = record { begun = begun; moves = moves; failed = failed; dialed = dialed; level = level } in
    let p : Pending = record { call = call.Write lid io_timeout lock_timeout flags bytes; arrival = arrival; aborted = aborted } in
    write-whole s.tables s.wire conn now o lid io_timeout lock_timeout flags bytes arrival aborted l a.decided size on
    (subst (λ q. decide s.tables s.wire conn q now o ≡ Some a.decided) (same_Some a.asked p (sym a.at ∙ at)) a.found) a.same

-- ---- the laws

pub interface-holds : HeardOnInterfaceLaw
interface-holds abort_port earlier s t conn now begun moves failed dialed level size lid io_timeout lock_timeout flags bytes arrival aborted l legal at on is h a =
    let o : BusInput = record { begun = begun; moves = moves; failed = failed; dialed = dialed; level = level } in
    let stands = answer-whole s t conn now begun moves failed dialed level size lid io_timeout lock_timeout flags bytes arrival aborted l
    (answer-parts s t conn now o (reply.Write code.Ok size) h) at on in
    let all = puts (sets_end flags) bytes in
    let made = whole-just all moves ((whole-law (write_plan Interface (sets_end flags) bytes s.wire.polling s.wire.own) moves).0
    (subst (λ x. stand (write_plan x (sets_end flags) bytes s.wire.polling s.wire.own) moves ≡ Whole) is stands)) in
    ap (heard a s.wire) made ∙ heard-puts a s.wire (sets_end flags) bytes

-- one listener is among the listeners, and no other address is
one-listens : (a : Addr) → has_address (a ∷ []) a ≡ true
one-listens a = ap (λ b. b || false) (same_address-refl a)

others_dont : (a b : Addr) → a ≢ b → has_address (b ∷ []) a ≡ false
others_dont a b ne = by (cases_Bool (same_address a b)) where
  by : (same_address a b ≡ true) ⊎ (same_address a b ≡ false) → has_address (b ∷ []) a ≡ false
  by (inl e) = absurd (ne (same_address-equal a b e))
  by (inr e) = ap (λ c. c || false) e

heard-there : (w : Wire) (p : ℕ) (s : Option ℕ) (end : Bool) (bytes : List ℕ) (moves : List Transfer) → IsTargetPlain (Device p s) → w.own ≤ ADDRESS_MAX
    → stand (write_plan (Device p s) end bytes w.polling w.own) moves ≡ Whole → (a : Addr) → (hears : Bool) → has_address (record { p = p; s = s } ∷ []) a ≡ hears
    → heard a w moves ≡ (if hears then marked_bytes end bytes else [])
heard-there w p s end bytes moves plain small stands a hears is =
    let all = ended_poll w.polling ++ unl ∷ mta w.own ∷ listener p s ++ puts end bytes in
    let made = whole-just all moves ((whole-law (write_plan (Device p s) end bytes w.polling w.own) moves).0 stands) in
    let addressed = heard-addressed a w w.polling w.own p s (puts end bytes) small plain.0 plain.1 in
    ap (heard a w) made ∙ addressed.2 ∙ heard-puts a addressed.0 end bytes
    ∙ ap (λ b. cond b (marked_bytes end bytes) []) (ap (λ xs. has_address xs a) addressed.1 ∙ is)

pub device-holds : HeardLaw
device-holds abort_port earlier s t conn now begun moves failed dialed level size lid io_timeout lock_timeout flags bytes arrival aborted l p secondary legal at on is h =
    let o : BusInput = record { begun = begun; moves = moves; failed = failed; dialed = dialed; level = level } in
    let stands = answer-whole s t conn now begun moves failed dialed level size lid io_timeout lock_timeout flags bytes arrival aborted l
    (answer-parts s t conn now o (reply.Write code.Ok size) h) at on in
    let plain = legal-plain abort_port earlier s legal in
    let here : IsTargetPlain (Device p secondary) = subst IsTargetPlain is (found-has IsLinkPlain _ s.tables.links.links l on plain.links) in
    let heard-by = heard-there s.wire p secondary (sets_end flags) bytes moves here plain.own
    (subst (λ x. stand (write_plan x (sets_end flags) bytes s.wire.polling s.wire.own) moves ≡ Whole) is stands) in (
      heard-by (record { p = p; s = secondary }) true (one-listens (record { p = p; s = secondary })),
      λ a ne. heard-by a false (others_dont a (record { p = p; s = secondary }) ne),
    )
