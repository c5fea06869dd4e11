-- Interrupt calls: each that a gateway gives is read from its record, since what calls bring of them can be written.
use Rattle.std.proofs.Common.{◌≡◌, ℕ, zero, suc, ◌+◌, ◌<◌, ◌≤◌, ◌^◌, lit<, Bool, true, false, cond, not, ◌&&◌, ◌==◌, inl, inr, ltb, List, [], ◌∷◌, ◌++◌, length, map, filter, drop, Option, Some, None, Result, Ok, Err, ◌↔◌, refl, sym, ap, ◌∙◌, subst, arith, append-nil, nat_lt, mod-lt}
use Rattle.std.specs.Option.{option_map, option_and_then}
use Rattle.std.specs.List.{All}
use Rattle.std.specs.Result.{result_ok}
use Rattle.std.proofs.lemmas.Bool.{le-ltb, cond-true}
use Rattle.std.proofs.lemmas.Option.{none-some, same_Some, some_pair_parts, cond_some}
use Rattle.std.proofs.lemmas.List.{length-append}
use Rattle.std.proofs.lemmas.List.Elements.{All-append, All-cons, All-head, All-map, All-nil, All-tail}
use Rattle.vx_lemmas.proofs.Laws.Conditions.{self_bytes}
use Rattle.vx_lemmas.proofs.Laws.Options.{mapped, gone_on}
use Rattle.vx_lemmas.proofs.Laws.Lists.{All-kept}
use Rattle.vx_calls.specs.declared.calls.Role.{Role}
use Rattle.vx_calls.specs.declared.calls.Role.TheVariants as role
use Rattle.vx_calls.specs.declared.calls.Proc.{Proc}
use Rattle.vx_calls.specs.declared.calls.Proc.TheVariants as proc
use Rattle.vx_calls.specs.declared.targets.Target.{Target}
use Rattle.vx_calls.specs.declared.codes.ErrorCode.{ErrorCode}
use Rattle.vx_calls.specs.Target.{target}
use Rattle.vx_calls.specs.Call.{Call}
use Rattle.vx_calls.specs.Call as call
use Rattle.vx_calls.specs.Reply.{Reply}
use Rattle.vx_xdr.specs.Spelling.{AreBytes, Word, Opaque, word, opaque}
use Rattle.vx_xdr.specs.Reading.{◌>>=◌, reading}
use Rattle.vx_xdr.proofs.Laws.{number-word, reading-again, IsWord-lt}
use Rattle.vx_record.specs.Fragments.{last_header}
use Rattle.vx_rpc.proofs.Laws.Sorted.{bind-is, call_body-steps}
use Rattle.vx_rpc.specs.Header.{number_at, behind_auth, CallBody, call_body}
use Rattle.vx_rpc.specs.CallMeaning.{Called, call_meaning}
use Rattle.vx_rpc.specs.Sorting.{Sorting, sorted}
use Rattle.vx_rpc.specs.Sorting as sort
use Rattle.vx_rpc.specs.Spelled.{IsCall, auth_text}
use Rattle.vx_rpc.specs.Procedure.{program, proc_number}
use Rattle.vx_rpc.specs.Wording.{words, call_message}
use Rattle.vx_codec.specs.Row.{Contents, SpellsRow, whole}
use Rattle.vx_codec.specs.Asked.{Asks, arguments_of, call_of, asked}
use Rattle.vx_rules.specs.Table.{is_live}
use Rattle.vx_rules.specs.Locks.{holds, with_lock}
use Rattle.vx_rules.specs.SrqState.{SrqState, Channel, Enable, Srq, Front, Gone, front_given, given_by, given, channel_at, handles_of, queued_on, risen_slot, is_rise, sampled, front_taken, taken_from, taken, new_channel, with_channel, with_enable, enable_put, with_slot, without_slot, with_new_channel, without_enable}
use Rattle.vx_rules.specs.State.{Pending, Tables, first_tables, pending_at, with_link, with_connection}
use Rattle.vx_rules.specs.Checks.{NamedLink, NoLink, DeadLink, OnLink, named_link}
use Rattle.vx_rules.specs.Effects.{locked_link, create, effect}
use Rattle.vx_rules.specs.AtomicStep.{marked}
use Rattle.vx_flow.specs.Event.{Event, Up, Down, Arrive, Answer, Abort, Sample, Take, Begin, Move, Dial}
use Rattle.vx_flow.specs.InterleavedState.{InterleavedState}
use Rattle.vx_flow.specs.InterleavedStep.{wire_for, interleaved_step, bus_input}
use Rattle.vx_flow.specs.Does.{Does, AnsweredBy, ByAbort, ByNoLink, ByCheck, ByBar, ByDialUp, ByDialDown, ByEffect, ByNoRole, ByFault, ByWhole, ByTimeout}
use Rattle.vx_flow.proofs.Laws.{interleaved-does, channel-risen, channel-up, channel-down, channel-put, channel-taken}
use Rattle.vx_exchange.specs.Meaning.{Asks as Means, meaning, by_call, by_arguments, by_sorting, srq_record, intr_srq}
use Rattle.vx_history.specs.Replies.{srq_with, srq_told, if_srq_spelled, srq_in}
use Rattle.vx_history.proofs.FormedStands.{CameFrom, Was, Came, call-from}

-- ---- an interrupt call's record is read as that call

-- no credential, and no verifier
none-read : (rest : List ℕ) → behind_auth (word 0 ++ (opaque [] ++ rest)) ≡ Ok rest
none-read rest =
    bind-is (reading Word (word 0 ++ (opaque [] ++ rest))) (λ flavor. reading (Opaque 400) flavor.1 >>= λ body. Ok body.1) (0, opaque [] ++ rest) (Ok rest)
    (reading-again Word 0 (opaque [] ++ rest) (lit< tt))
    (bind-is (reading (Opaque 400) (opaque [] ++ rest)) (λ body. Ok body.1) ([], rest) (Ok rest) (reading-again (Opaque 400) [] rest (omega arith, omega arith)) refl)

meaning-steps : (message : List ℕ) (xid : ℕ) (body : CallBody) → 12 ≤ length message → number_at 0 message ≡ xid → number_at 1 message ≡ 0 → number_at 2 message ≡ 2
    → call_body (drop 12 message) ≡ Ok body → call_meaning message ≡ Called xid body
meaning-steps message xid body long first second third rest =
    let enough : ltb (length message) 12 ≡ false = le-ltb _ _ long in
    rw (enough, second, third, first, rest) refl

-- a call that was written is read as that call
call-read : (xid prog vers number : ℕ) (args : List ℕ) → xid < 2 ^ 32 → prog < 2 ^ 32 → vers < 2 ^ 32 → number < 2 ^ 32
    → call_meaning (call_message xid prog vers number ++ args) ≡ Called xid (record { program = prog; version = vers; procedure = number; args = args })
call-read xid prog vers number args hx hp hv hn =
    let d = word 0 ++ (opaque [] ++ args) in
    let c = word 0 ++ (opaque [] ++ d) in
    let b = word number ++ c in
    let a = word vers ++ b in
    let three = word prog ++ a in
    let body = call_body-steps three a b c d args prog vers number
    (reading-again Word prog a hp) (reading-again Word vers b hv) (reading-again Word number c hn) (none-read d) (none-read args) in
    let front = words (xid ∷ 0 ∷ 2 ∷ prog ∷ vers ∷ number ∷ []) in
    let long : 12 ≤ length (front ++ c) = omega (arith, length-append front c) in
    meaning-steps (front ++ c) xid (record { program = prog; version = vers; procedure = number; args = args }) long
    (number-word xid (word 0 ++ (word 2 ++ three)) hx) (number-word 0 (word 2 ++ three) (lit< tt)) (number-word 2 three (lit< tt)) body

pub srq-read : (i : Srq) → i.xid < 2 ^ 32 → i.program < 2 ^ 32 → i.version < 2 ^ 32 → length i.handle ≤ 40 → srq_in (srq_record i) ≡ Some i
srq-read i hx hp hv hh =
    let args = opaque i.handle in
    let message = call_message i.xid i.program i.version intr_srq ++ args in
    let body : CallBody = record { program = i.program; version = i.version; procedure = intr_srq; args = args } in
    let handle : reading (Opaque 40) args ≡ Ok (i.handle, []) =
    ap (reading (Opaque 40)) (sym (append-nil args)) ∙ reading-again (Opaque 40) i.handle [] (hh, omega (arith, hh)) in
    ap (λ x. option_and_then (if_srq_spelled (srq_record i)) (srq_told x)) (behind (length message) message ∙ call-read i.xid i.program i.version intr_srq args hx hp hv (lit< tt))
    ∙ ap (λ x. option_and_then (if_srq_spelled (srq_record i)) (option_map (srq_with i.xid body) (whole (result_ok x)))) handle
    ∙ cond-true _ _ _ (self_bytes (srq_record i))
  where
    behind : (n : ℕ) (m : List ℕ) → call_meaning (drop 4 (last_header n ++ m)) ≡ call_meaning m
    behind n m = refl

-- ---- what calls bring of interrupt calls

-- a handle has at most 40 bytes, and a program and a version are words
abbrev pub IsSendable : Call → Type 0
IsSendable (call.EnableSrq lid enable handle) = length handle ≤ 40
IsSendable (call.CreateIntr host port prog vers family) = (prog < 2 ^ 32) × (vers < 2 ^ 32)
IsSendable _ = Unit {0}

-- what is read as arguments is what their bytes spell, and a message is sorted as a call where its bytes are one
abbrev pub AskedSpelled : Type 0
AskedSpelled = (procedure : Proc) (asks : Call) (bytes : List ℕ) → AreBytes bytes → (asked procedure bytes ≡ Some asks) ↔ Asks procedure asks bytes

abbrev pub CallsSpelled : Type 0
CallsSpelled = (r : Role) (xid : ℕ) (procedure : Proc) (args message : List ℕ) → AreBytes message
    → (sorted message r ≡ sort.Call xid procedure args) ↔ IsCall r xid procedure args message

values-sendable : (procedure : Proc) (values : Contents (arguments_of procedure)) (bytes : List ℕ) → SpellsRow (arguments_of procedure) values bytes
    → IsSendable (call_of procedure values)
values-sendable proc.EnableSrq values bytes (f₁, r₁, s₁, (f₂, r₂, s₂, (f₃, r₃, s₃, rest, e₃), e₂), e₁) = s₃.within
values-sendable proc.CreateIntr values bytes (f₁, r₁, s₁, (f₂, r₂, s₂, (f₃, r₃, s₃, (f₄, r₄, s₄, rest, e₄), e₃), e₂), e₁) = (IsWord-lt _ f₃ s₃, IsWord-lt _ f₄ s₄)
values-sendable proc.Null values bytes h = tt
values-sendable proc.CreateLink values bytes h = tt
values-sendable proc.Write values bytes h = tt
values-sendable proc.Read values bytes h = tt
values-sendable proc.ReadStb values bytes h = tt
values-sendable proc.Trigger values bytes h = tt
values-sendable proc.Clear values bytes h = tt
values-sendable proc.Remote values bytes h = tt
values-sendable proc.Local values bytes h = tt
values-sendable proc.Lock values bytes h = tt
values-sendable proc.Unlock values bytes h = tt
values-sendable proc.Docmd values bytes h = tt
values-sendable proc.DestroyLink values bytes h = tt
values-sendable proc.DestroyIntr values bytes h = tt
values-sendable proc.DeviceAbort values bytes h = tt

-- the end of bytes is bytes
all-tail : (front rest : List ℕ) → All (λ b. b < 2 ^ 8) (front ++ rest) → All (λ b. b < 2 ^ 8) rest
all-tail [] rest h = h
all-tail (b ∷ front) rest h = all-tail front rest (All-tail (λ b. b < 2 ^ 8) b (front ++ rest) h)

-- bytes one by one are bytes by their places
are-bytes : (bytes : List ℕ) → All (λ b. b < 2 ^ 8) bytes → AreBytes bytes
are-bytes [] h i = omega arith
are-bytes (b ∷ bs) h zero = All-head (λ b. b < 2 ^ 8) b bs h
are-bytes (b ∷ bs) h (suc i) = are-bytes bs (All-tail (λ b. b < 2 ^ 8) b bs h) i

-- the call that a message means brings such
pub means-sendable : AskedSpelled → CallsSpelled → (message : List ℕ) (r : Role) (xid : ℕ) (c : Call) → All (λ b. b < 2 ^ 8) message
    → meaning message r ≡ Means xid c → IsSendable c
means-sendable asks calls message r xid c bytes h = by (sorted message r) refl h where
  by_one : (x : ℕ) (d : Call) → by_call x d ≡ Means xid c → d ≡ c
  by_one x call.Null e = cc
  by_one x (call.DeviceAbort lid) e = cc
  by_one x d e = cc

  given : (x : ℕ) (procedure : Proc) (args : List ℕ) → sorted message r ≡ sort.Call x procedure args → (o : Option Call) → asked procedure args ≡ o
      → by_arguments x o ≡ Means xid c → IsSendable c
  given x procedure args is None e k = cc
  given x procedure args is (Some d) e k =
      let spelled = (calls r x procedure args message (are-bytes message bytes)).0 is in
      let text = subst (All (λ b. b < 2 ^ 8)) spelled.text bytes in
      let tail = all-tail (auth_text spelled.verifier) args
      (all-tail (auth_text spelled.credential) (auth_text spelled.verifier ++ args)
      (all-tail (words (x ∷ 0 ∷ 2 ∷ program r ∷ 1 ∷ proc_number procedure ∷ [])) (auth_text spelled.credential ++ (auth_text spelled.verifier ++ args)) text)) in
      let row = (asks procedure d args (are-bytes args tail)).0 e in
      subst IsSendable (sym row.1 ∙ by_one x d k) (values-sendable procedure row.0 args row.2)

  by : (s : Sorting) → sorted message r ≡ s → by_sorting s ≡ Means xid c → IsSendable c
  by sort.Junk e k = cc
  by (sort.Refuse x why) e k = cc
  by (sort.Call x procedure args) e k = given x procedure args e (asked procedure args) refl k

-- ---- what the gateway keeps of interrupt calls

abbrev pub IsShort : List ℕ → Type 0
IsShort handle = length handle ≤ 40

abbrev pub HasShort : Enable → Type 0
HasShort e = IsShort e.handle

pub record IsPlain (c : Channel) : Type 0 where
  pub program : c.program < 2 ^ 32
  pub version : c.version < 2 ^ 32
  pub next : c.next_xid < 2 ^ 32
  pub outbox : All IsShort c.outbox

-- channels and enables
pub record IsServed (d : SrqState) : Type 0 where
  pub channels : (conn : ℕ) (c : Channel) → channel_at d conn ≡ Some c → IsPlain c
  pub enables : All HasShort d.enables

-- channels, enables and calls without an answer
pub record IsReady (t : Tables) : Type 0 where
  pub served : IsServed t.srq_state
  pub calls : (conn : ℕ) (p : Pending) → pending_at t conn ≡ Some p → IsSendable p.call

-- each interrupt call that may be taken is read
pub ready-read : (t : Tables) → IsReady t → (conn chan : ℕ) (i : Srq) → given t.srq_state conn chan ≡ Front i → srq_in (srq_record i) ≡ Some i
ready-read t ready conn chan i h = by (channel_at t.srq_state conn) refl h where
  front : (c : Channel) → IsPlain c → (handles : List (List ℕ)) → All IsShort handles → front_given c handles ≡ Front i → srq_in (srq_record i) ≡ Some i
  front c plain [] short e = cc
  front c plain (handle ∷ rest) short e =
      let same : record { xid = c.next_xid; program = c.program; version = c.version; handle = handle } ≡ i = cc in
      subst (λ (x : Srq). srq_in (srq_record x) ≡ Some x) same (srq-read _ plain.next plain.program plain.version (All-head IsShort handle rest short))

  at : (c : Channel) → IsPlain c → (b : Bool) → cond b (front_given c c.outbox) Gone ≡ Front i → srq_in (srq_record i) ≡ Some i
  at c plain true e = front c plain c.outbox plain.outbox e
  at c plain false e = cc

  by : (o : Option Channel) → channel_at t.srq_state conn ≡ o → given_by o chan ≡ Front i → srq_in (srq_record i) ≡ Some i
  by None is e = cc
  by (Some c) is e = at c (ready.served.channels conn c is) (c.number == chan) e

-- a gateway as it starts has none
pub first-ready : (abort_port : ℕ) → IsReady (first_tables abort_port)
first-ready abort_port = record {
  served = record { channels = λ conn c is. absurd (none-some c is); enables = All-nil HasShort };
  calls = λ conn p at. absurd (none-some p at);
}

-- ---- what changes leave of it

with-served : (d : SrqState) (conn : ℕ) → IsServed d → IsServed (with_slot d conn)
with-served d conn s = record { channels = λ mine c is. s.channels mine c (sym (channel-up d conn mine) ∙ is); enables = s.enables }

up-served : (t : Tables) (r : Role) → IsServed t.srq_state → IsServed (with_connection t r).srq_state
up-served t role.Core s = with-served t.srq_state t.next_connection s
up-served t role.Abort s = s

down-served : (d : SrqState) (conn : ℕ) → IsServed d → IsServed (without_slot d conn)
down-served d conn s = record {
  channels = λ mine c is. elim (channel-down d conn mine) [ inl e ↦ s.channels mine c (sym e ∙ is) | inr e ↦ absurd (none-some c (sym e ∙ is)) ];
  enables = All-kept HasShort HasShort (λ (e : Enable). not (e.connection == conn)) d.enables (λ e b h. h) s.enables;
}

put-served : (d : SrqState) (conn : ℕ) (channel : Option Channel) → ((c : Channel) → channel ≡ Some c → IsPlain c) → IsServed d → IsServed (with_channel d conn channel)
put-served d conn channel plain s = record {
  channels = λ mine c is. elim (channel-put d conn mine channel) [ inl e ↦ s.channels mine c (sym e ∙ is) | inr e ↦ plain c (sym e ∙ is) ];
  enables = s.enables;
}

new-plain : (number prog vers : ℕ) → prog < 2 ^ 32 → vers < 2 ^ 32 → IsPlain (new_channel number prog vers)
new-plain number prog vers hp hv = record { program = hp; version = hv; next = omega arith; outbox = All-nil IsShort }

new-served : (d : SrqState) (conn prog vers : ℕ) → prog < 2 ^ 32 → vers < 2 ^ 32 → IsServed d → IsServed (with_new_channel d conn prog vers)
new-served d conn prog vers hp hv s =
    let put = put-served d conn (Some (new_channel d.next_channel prog vers)) (λ c is. subst IsPlain (same_Some _ c is) (new-plain d.next_channel prog vers hp hv)) s in
    record { channels = put.channels; enables = put.enables }

put-enables : (e : Enable) (fs : List Enable) → HasShort e → All HasShort fs → All HasShort (enable_put e fs)
put-enables e [] h all = All-cons HasShort e [] h all
put-enables e (f ∷ fs) h all = by (nat_lt e.link f.link) (e.link == f.link) (put-enables e fs h (All-tail HasShort f fs all)) where
  by : (before same : Bool) → All HasShort (enable_put e fs) → All HasShort (cond before (e ∷ f ∷ fs) (cond same (e ∷ fs) (f ∷ enable_put e fs)))
  by true same later = All-cons HasShort e (f ∷ fs) h all
  by false true later = All-cons HasShort e fs h (All-tail HasShort f fs all)
  by false false later = All-cons HasShort f (enable_put e fs) (All-head HasShort f fs all) later

enable-served : (d : SrqState) (e : Enable) → HasShort e → IsServed d → IsServed (with_enable d e)
enable-served d e h s = record { channels = s.channels; enables = put-enables e d.enables h s.enables }

disable-served : (d : SrqState) (lid : ℕ) → IsServed d → IsServed (without_enable d lid)
disable-served d lid s =
    record { channels = s.channels; enables = All-kept HasShort HasShort (λ (e : Enable). not (e.link == lid)) d.enables (λ e b h. h) s.enables }

-- handles that a rise queues are short
handles-short : (d : SrqState) (conn : ℕ) → IsServed d → All IsShort (handles_of d.enables conn)
handles-short d conn s =
    All-map IsShort (λ (e : Enable). e.handle) (filter (λ (e : Enable). e.on && (e.connection == conn)) d.enables)
    (All-kept HasShort HasShort (λ (e : Enable). e.on && (e.connection == conn)) d.enables (λ e b h. h) s.enables)

queued-plain : (handles : List (List ℕ)) (b c : Channel) → All IsShort handles → IsPlain b → queued_on handles b ≡ Some c → IsPlain c
queued-plain handles b c short plain is =
    subst IsPlain (cond_some _ (record b { outbox = b.outbox ++ handles }) c is).1
    (record { program = plain.program; version = plain.version; next = plain.next; outbox = All-append IsShort b.outbox handles plain.outbox short })

sampled-served : (d : SrqState) (level : Bool) → IsServed d → IsServed (sampled d level)
sampled-served d level s = by (is_rise d.level level) where
  by : (b : Bool) → IsServed (cond b (record d { slots = map (risen_slot d.enables) d.slots; level = level }) (record d { level = level }))
  by true = record {
    channels = λ conn c is.
        let was = gone_on (queued_on (handles_of d.enables conn)) (channel_at d conn) c (sym (channel-risen d level conn) ∙ is) in
        queued-plain (handles_of d.enables conn) was.0 c (handles-short d conn s) (s.channels conn was.0 was.1) was.2;
    enables = s.enables;
  }
  by false = record { channels = s.channels; enables = s.enables }

front-plain : (c : Channel) (handles : List (List ℕ)) → All IsShort handles → IsPlain c → IsPlain (front_taken c handles)
front-plain c [] short plain = plain
front-plain c (handle ∷ rest) short plain = record {
  program = plain.program;
  version = plain.version;
  next = mod-lt (c.next_xid + 1) (lit< tt);
  outbox = All-tail IsShort handle rest short;
}

taken-plain : (number : ℕ) (b c : Channel) → IsPlain b → taken_from number b ≡ c → IsPlain c
taken-plain number b c plain is = subst IsPlain is (by (b.number == number)) where
  by : (x : Bool) → IsPlain (cond x (front_taken b b.outbox) b)
  by true = front-plain b b.outbox plain.outbox plain
  by false = plain

taken-served : (d : SrqState) (conn number : ℕ) → IsServed d → IsServed (taken d conn number)
taken-served d conn number s = record { channels = λ mine c is. at mine c (mine == conn) (sym (channel-taken d conn number mine) ∙ is); enables = s.enables } where
  at : (mine : ℕ) (c : Channel) (b : Bool) → cond b (option_map (taken_from number) (channel_at d mine)) (channel_at d mine) ≡ Some c → IsPlain c
  at mine c true e =
      let was = mapped (taken_from number) (channel_at d mine) c e in
      taken-plain number was.0 c (s.channels mine was.0 was.1) was.2
  at mine c false e = s.channels mine c e

-- ---- effects

-- what is shown of the tables behind an effect
by-tables : (given told : Reply) (t after : Tables) → ◌≡◌ {A = Option (Reply × Tables)} (Some (given, t)) (Some (told, after)) → IsServed t.srq_state → IsServed after.srq_state
by-tables given told t after is s = subst (λ (u : Tables). IsServed u.srq_state) (some_pair_parts given told t after is).1 s

effect-served : (t : Tables) (own conn : ℕ) (about : NamedLink) (c : Call) (told : Reply) (after : Tables) → IsServed t.srq_state → IsSendable c
    → effect t own conn about c ≡ Some (told, after) → IsServed after.srq_state
effect-served t own conn (OnLink l) (call.Lock lid flags lock_timeout) told after s sends is = by-tables _ told _ after is (by (holds t.locks l.number)) where
  by : (b : Bool) → IsServed (cond b t (record t { locks = with_lock t.locks l.number l.target })).srq_state
  by true = s
  by false = s
effect-served t own conn (OnLink l) (call.Unlock lid) told after s sends is = by-tables _ told _ after is s
effect-served t own conn (OnLink l) (call.EnableSrq lid enable handle) told after s sends is =
    by-tables _ told _ after is (enable-served t.srq_state (record { link = l.number; connection = conn; on = enable; handle = handle }) sends s)
effect-served t own conn (OnLink l) (call.DestroyLink lid) told after s sends is = by-tables _ told _ after is (disable-served t.srq_state l.number s)
effect-served t own conn (OnLink l) _ told after s sends is = cc
effect-served t own conn DeadLink c told after s sends is = cc
effect-served t own conn NoLink (call.CreateLink client lock lock_timeout device) told after s sends is = by (target device own) is where
  made : (named : Target) (b : Bool) → IsServed (locked_link t b named (with_link t conn named)).srq_state
  made named true = s
  made named false = s

  by : (o : Result Target ErrorCode) → create t conn lock o ≡ Some (told, after) → IsServed after.srq_state
  by (Ok named) h = by-tables _ told _ after h (made named lock)
  by (Err error) h = cc
effect-served t own conn NoLink call.DestroyIntr told after s sends is = by-tables _ told _ after is (put-served t.srq_state conn None (λ c e. cc) s)
effect-served t own conn NoLink _ told after s sends is = cc

-- an answer
answer-served : (f : InterleavedState) (conn now : ℕ) (p : Pending) (failed : Bool) (dialed : Option Bool) (level : Bool) (told : Reply) (after : Tables)
    → IsServed f.state.tables.srq_state → IsSendable p.call → AnsweredBy f conn now p (bus_input f conn failed dialed level) told after → IsServed after.srq_state
answer-served f conn now p failed dialed level told after s sends line = by line where
  same : after ≡ f.state.tables → IsServed after.srq_state
  same e = subst (λ (u : Tables). IsServed u.srq_state) (sym e) s

  by : AnsweredBy f conn now p (bus_input f conn failed dialed level) told after → IsServed after.srq_state
  by (ByAbort marked still stops) = same stops.same
  by (ByNoLink unmarked dead still stops) = same stops.same
  by (ByCheck e unmarked live checked still stops) = same stops.same
  by (ByBar bar unmarked checked kept waits still stops) = same stops.same
  by (ByDialUp clear d is leads) =
      let words = subst IsSendable d.asks sends in
      subst (λ (u : Tables). IsServed u.srq_state) (sym leads) (new-served f.state.tables.srq_state conn d.program d.version words.0 words.1 s)
  by (ByDialDown clear d is leads) = same leads
  by (ByEffect clear bus asks still h) = effect-served f.state.tables (wire_for f conn).own conn (named_link f.state.tables conn p.call) p.call told after s sends h
  by (ByNoRole job clear is out still stops) = same stops.same
  by (ByFault clear broken stops) = same stops.same
  by (ByWhole clear d) = same d.same
  by (ByTimeout clear late stops) = same stops.same

-- ---- events

-- a call that comes brings such
abbrev pub BringsSendable : Event → Type 0
BringsSendable (Arrive conn asked now) = IsSendable asked
BringsSendable _ = Unit {0}

-- what is served stays so
served-step : (e : Event) (f g : InterleavedState) → IsReady f.state.tables → Does f e g → IsServed g.state.tables.srq_state
served-step (Up conn r) f g ready does = subst (λ (x : InterleavedState). IsServed x.state.tables.srq_state) (sym does.step.leads) (up-served f.state.tables r ready.served)
served-step (Down conn) f g ready does =
    subst (λ (x : InterleavedState). IsServed x.state.tables.srq_state) (sym does.step.leads) (down-served f.state.tables.srq_state conn ready.served)
served-step (Arrive conn asked now) f g ready does = subst (λ (x : InterleavedState). IsServed x.state.tables.srq_state) (sym does.step.leads) ready.served
served-step (Answer conn now failed dialed level told) f g ready does =
    let a = does.step in
    subst (λ (x : InterleavedState). IsServed x.state.tables.srq_state) (sym a.leads)
    (answer-served f conn now a.asked failed dialed level told a.after ready.served (ready.calls conn a.asked a.call_at) a.line)
served-step (Abort conn lid told) f g ready does =
    subst (λ (x : InterleavedState). IsServed x.state.tables.srq_state) (sym does.step.leads) (by (is_live f.state.tables.links lid))
  where
    by : (b : Bool) → IsServed (cond b (marked f.state.tables lid) f.state.tables).srq_state
    by true = ready.served
    by false = ready.served
served-step (Sample now level) f g ready does =
    subst (λ (x : InterleavedState). IsServed x.state.tables.srq_state) (sym does.step.leads) (sampled-served f.state.tables.srq_state level ready.served)
served-step (Take conn chan told) f g ready does =
    subst (λ (x : InterleavedState). IsServed x.state.tables.srq_state) (sym does.step.leads) (taken-served f.state.tables.srq_state conn chan ready.served)
served-step (Begin conn now) f g ready does = subst (λ (x : InterleavedState). IsServed x.state.tables.srq_state) (sym does.step.leads) ready.served
served-step (Move conn moves) f g ready does = subst (λ (x : InterleavedState). IsServed x.state.tables.srq_state) (sym does.step.leads) ready.served
served-step (Dial conn now) f g ready does = subst (λ (x : InterleavedState). IsServed x.state.tables.srq_state) (sym does.step.leads) ready.served

pub ready-step : (f g : InterleavedState) (e : Event) → IsReady f.state.tables → BringsSendable e → interleaved_step f e ≡ Some g → IsReady g.state.tables
ready-step f g e ready brings h = record {
  served = served-step e f g ready (interleaved-does f g e h);
  calls = λ m p at. by m p (call-from e f g h m p at);
} where
  by : (m : ℕ) (p : Pending) → CameFrom f e m p → IsSendable p.call
  by m p (Was q before is) = subst IsSendable is (ready.calls m q before)
  by m p (Came asked now same is) = subst IsSendable is (subst BringsSendable same brings)
