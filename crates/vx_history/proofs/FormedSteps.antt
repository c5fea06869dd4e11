-- The lines of each step of a run.
use Rattle.std.proofs.Common.{◌≡◌, ◌≢◌, ℕ, ◌<◌, ◌≤◌, max, Bool, true, false, cond, ◌==◌, List, [], ◌∷◌, ◌++◌, Option, Some, None, is_some, is_none, refl, sym, ap, ◌∙◌, subst, arith, eqb-true}
use Rattle.std.specs.Option.{option_map, option_and_then}
use Rattle.std.proofs.lemmas.Bool.{cond-true, cond-false, ne_eqb}
use Rattle.std.proofs.lemmas.Option.{same_Some}
use Rattle.vx_lemmas.proofs.Laws.Conditions.{eqb-self, self_bytes}
use Rattle.vx_lemmas.proofs.Laws.Options.{nothing}
use Rattle.vx_calls.specs.declared.calls.Role.{Role}
use Rattle.vx_calls.specs.declared.calls.Proc.TheVariants as proc
use Rattle.vx_calls.specs.declared.codes.ErrorCode.{ErrorCode}
use Rattle.vx_calls.specs.Reply as reply
use Rattle.vx_record.specs.Fragments.{record_of}
use Rattle.vx_rpc.specs.Wording.{call_message}
use Rattle.vx_xdr.specs.Spelling.{opaque}
use Rattle.vx_script.specs.declared.Cause.TheVariants as cause
use Rattle.vx_script.specs.Command.{Command, Up, In, Down, At, Poll, Sample, Take, Dial, Inst, Plug, Pull, Set, Fail}
use Rattle.vx_trace.specs.Output.{Output}
use Rattle.vx_trace.specs.Output as line
use Rattle.vx_trace.specs.Text.{HasRanges}
use Rattle.vx_rules.specs.SrqState.{Channel, Srq, Given, Front, Empty, Gone, front_given, given_by, given, channel_at}
use Rattle.vx_rules.specs.State.{Connection, Pending, Tables, connection_at, role_at, pending_at}
use Rattle.vx_flow.specs.Event.{Event}
use Rattle.vx_flow.specs.Event as event
use Rattle.vx_flow.specs.InterleavedState.{InterleavedState}
use Rattle.vx_flow.specs.Does.{Does}
use Rattle.vx_flow.proofs.Laws.{interleaved-does}
use Rattle.vx_exchange.specs.Meaning.{Meaning, Junk, Asks, Aborts, meaning, xid_by, reply_record, srq_record, intr_srq}
use Rattle.vx_exchange.specs.Meaning as meant
use Rattle.vx_run.specs.Stream.{Brought, NoEnd, Whole, TooLong, After, brought, message_by}
use Rattle.vx_run.specs.Item.{noted}
use Rattle.vx_run.specs.RunText.{message_lines}
use Rattle.vx_run.specs.Notes.{take_line}
use Rattle.vx_run.specs.Position.{Position, xid_of, xid_brought, xids_after, moment_after, message_after}
use Rattle.vx_run.specs.Giving.{Gives, PollGives, MessageGives, RecordGives, PieceGives, ChannelGives, StepGives}
use Rattle.vx_run.specs.Forming.{refused_by, gateway_refusal}
use Rattle.vx_history.specs.Replies.{abort_in, error_alone, srq_in}
use Rattle.vx_history.specs.CheckState.{CheckState, Kept, Free}
use Rattle.vx_history.specs.CheckState as asks
use Rattle.vx_history.specs.Saying.{Happens, message_says, call_says, due_says, abort_says, irq_says, front_says, none_says, free_says}
use Rattle.vx_history.specs.Laws.{ReplyLaw}
use Rattle.vx_calls.proofs.Laws.{number-small}
use Rattle.vx_history.proofs.FormedReads.{Each}
use Rattle.vx_history.proofs.FormedStands.{here, IsOwn, KeptSo, StandsFor, Led, led-append, led-none, kept-same, kept-down, kept-arrive, kept-xids}
use Rattle.vx_history.proofs.FormedLines.{event-led, comes-led, quiet-led, pair-led, pair-quiet, happens-so, quiet-so, out-so, out-own, reply-own, record-some, dial-led}
use Rattle.vx_history.proofs.FormedPolls.{lines_of, told_of, split-front, poll-led}

-- the lines of a step, with these transfers of it within range
abbrev pub StepLed : InterleavedState → ℕ → List Kept → ℕ → ℕ → (ℕ → ℕ) → List Output → List Event → Option Output → InterleavedState → Type 0
StepLed f k kept m now later front group remark g = Led f k kept m now later (front ++ lines_of group ++ noted remark) (told_of group) g

-- what is led by what a step gives is led by what it made
gives-led : (f g : InterleavedState) (k : ℕ) (kept : List Kept) (m now : ℕ) (later : ℕ → ℕ) (front : List Output) (given group : List Event) (line remark : Option Output)
    → Gives f given line group remark g → StepLed f k kept m now later front given line g → StepLed f k kept m now later front group remark g
gives-led f g k kept m now later front given group line remark h led =
    subst (λ es. StepLed f k kept m now later front es remark g) (sym h.events) (subst (λ n. StepLed f k kept m now later front given n g) (sym h.told) led)

-- a state stands with other xids of those that have no call
pub stands-xids : (f : InterleavedState) (xids later : ℕ → ℕ) (now k : ℕ) (kept : List Kept) (m : ℕ) → ((n : ℕ) (p : Pending) → pending_at f.state.tables n ≡ Some p → later n ≡ xids n)
    → StandsFor f xids now k kept m → StandsFor f later now k kept m
stands-xids f xids later now k kept m same st = record { fit = st.fit; early = st.early; past = st.past; kept_so = kept-xids f kept xids later same st.kept_so }

-- nothing happens, and nothing is told
still-led : (f g : InterleavedState) (k : ℕ) (kept : List Kept) (m now : ℕ) (xids : ℕ → ℕ) (group : List Event) (remark : Option Output) → StandsFor f xids now k kept m
    → Gives f [] None group remark g → StepLed f k kept m now xids [] group remark g
still-led f g k kept m now xids group remark st h =
    gives-led f g k kept m now xids [] [] group None remark h (subst (Led f k kept m now xids [] []) (same_Some f g h.happens) (led-none f k kept m now xids st))

-- ---- connections

pending-role : (t : Tables) (m : ℕ) (p : Pending) → pending_at t m ≡ Some p → (r : Role) × (role_at t m ≡ Some r)
pending-role t m p = by (connection_at t m) where
  by : (o : Option Connection) → option_and_then (λ (c : Connection). c.pending) o ≡ Some p → (r : Role) × (option_map (λ (c : Connection). c.role) o ≡ Some r)
  by None h = cc
  by (Some c) h = (c.role, refl)

below-next : (n conn next : ℕ) → n < next → conn ≡ next → n ≡ conn → ⊥
below-next n conn next below is same = absurd (omega arith)

up-led : (f g : InterleavedState) (k : ℕ) (kept : List Kept) (m now : ℕ) (xids : ℕ → ℕ) (conn : ℕ) (r : Role) (group : List Event) (remark : Option Output) → StandsFor f xids now k kept m
    → Gives f (event.Up conn r ∷ []) None group remark g → StepLed f k kept m now (λ n. cond (n == conn) 0 (xids n)) [] group remark g
up-led f g k kept m now xids conn r group remark st h =
    gives-led f g k kept m now later [] (event.Up conn r ∷ []) group None remark h
    (event-led f g k kept m now xids later (line.Up conn r) (event.Up conn r) st (record { whole = tt; is_timed = refl }) refl h.happens tt so)
  where
    later : ℕ → ℕ
    later n = cond (n == conn) 0 (xids n)

    up_now : Does f (event.Up conn r) g
    up_now = interleaved-does f g (event.Up conn r) h.happens

    new : (n : ℕ) (p : Pending) → pending_at f.state.tables n ≡ Some p → n ≢ conn
    new n p at same =
        let role_is = pending-role f.state.tables n p at in
        let below = st.fit.numbered n role_is.0 role_is.1 in
        below-next n conn f.state.tables.next_connection below up_now.step.number same

    before : KeptSo f kept later
    before = kept-xids f kept xids later (λ n p at. cond-false (n == conn) 0 (xids n) (ne_eqb n conn (new n p at))) st.kept_so

    so : KeptSo g kept later
    so = kept-same f g (event.Up conn r) kept later h.happens refl before

-- a connection ends, and this line tells it
gone-led : (f g : InterleavedState) (k : ℕ) (kept : List Kept) (m now : ℕ) (xids : ℕ → ℕ) (conn : ℕ) (shown : Output) (group : List Event) (remark : Option Output)
    → StandsFor f xids now k kept m → IsOwn shown → ((s : CheckState) → free_says s shown ≡ Happens (event.Down conn))
    → Gives f (event.Down conn ∷ []) (Some shown) group remark g → StepLed f k kept m now xids [] group remark g
gone-led f g k kept m now xids conn shown group remark st own said h =
    gives-led f g k kept m now xids [] (event.Down conn ∷ []) group (Some shown) remark h
    (event-led f g k kept m now xids xids shown (event.Down conn) st own (said (here f k kept now Free)) h.happens tt (kept-down f g conn kept xids h.happens st.kept_so))

-- ---- messages

-- what a message's line says, where its connection lives in a role and has no call
call-said : (f : InterleavedState) (k : ℕ) (kept : List Kept) (now conn : ℕ) (message : List ℕ) (r : Role) (mean : Meaning) → role_at f.state.tables conn ≡ Some r
    → pending_at f.state.tables conn ≡ None → meaning message r ≡ mean → free_says (here f k kept now Free) (line.Call conn message) ≡ message_says conn mean
call-said f k kept now conn message r mean is idle means =
    ap (call_says (here f k kept now Free) conn message) is
    ∙ cond-false (is_some (pending_at f.state.tables conn)) _ _ (ap is_some idle)
    ∙ ap (message_says conn) means

call-own : (conn : ℕ) (message : List ℕ) → IsOwn (line.Call conn message)
call-own conn message = record { whole = tt; is_timed = refl }

-- the error of a device_abort's reply is read
abort-read : ReplyLaw → (xid : ℕ) (error : ErrorCode) → abort_in xid (reply_record xid (reply.Error error)) ≡ Some error
abort-read law xid error = ap (option_and_then error_alone) (law proc.DeviceAbort xid (reply.Error error) refl (number-small error, tt))

-- the xids behind a message on a connection
abbrev pub after_message : ℕ → Meaning → (ℕ → ℕ) → ℕ → ℕ
after_message conn mean xids n = cond (n == conn) (xid_by mean (xids conn)) (xids n)

-- a message that keeps no call keeps the xids
kept-xid : (conn last : ℕ) (xids : ℕ → ℕ) → last ≡ xids conn → (n : ℕ) → cond (n == conn) last (xids n) ≡ xids n
kept-xid conn last xids is n = by (n == conn) refl where
  by : (b : Bool) → (n == conn) ≡ b → cond b last (xids n) ≡ xids n
  by true e = is ∙ ap xids (sym (eqb-true n conn e))
  by false e = refl

message-led : ReplyLaw → (f g : InterleavedState) (k : ℕ) (kept : List Kept) (m now : ℕ) (xids : ℕ → ℕ) (conn : ℕ) (message : List ℕ) (r : Role) (mean : Meaning) (group : List Event)
    (remark : Option Output) → StandsFor f xids now k kept m → role_at f.state.tables conn ≡ Some r → pending_at f.state.tables conn ≡ None → meaning message r ≡ mean
    → MessageGives f conn now mean group remark g → Each HasRanges (lines_of group ++ noted remark)
    → StepLed f k kept m now (after_message conn mean xids) (line.Call conn message ∷ []) group remark g
message-led law f g k kept m now xids conn message r Junk group remark st is idle means h ranges =
    gives-led f g k kept m now later (line.Call conn message ∷ []) (event.Down conn ∷ []) group (Some (line.GoneJunk conn)) remark h
    (pair-led f g k kept m now xids later (line.Call conn message) (line.GoneJunk conn) (asks.Junk conn) (event.Down conn) st (call-own conn message)
    (record { whole = tt; is_timed = refl }) (call-said f k kept now conn message r Junk is idle means) (happens-so (conn == conn) (event.Down conn) (eqb-self conn)) h.happens tt
    (kept-xids g _ xids later (λ n p at. kept-xid conn (xids conn) xids refl n) (kept-down f g conn kept xids h.happens st.kept_so)))
  where
    later : ℕ → ℕ
    later = after_message conn Junk xids
message-led law f g k kept m now xids conn message r (meant.Answered text) group remark st is idle means h ranges =
    gives-led f g k kept m now later (line.Call conn message ∷ []) [] group (Some (line.Out conn (record_of text))) remark h
    (subst (Led f k kept m now later (line.Call conn message ∷ line.Out conn (record_of text) ∷ []) []) (same_Some f g h.happens)
    (pair-quiet f k kept m now later (line.Call conn message) (line.Out conn (record_of text)) (asks.Due conn (record_of text))
    (stands-xids f xids later now k kept m (λ n p at. kept-xid conn (xids conn) xids refl n) st) (call-own conn message) (out-own conn text)
    (call-said f k kept now conn message r (meant.Answered text) is idle means)
    (out-so conn (due_says (record_of text)) (record_of text) ∙ cond-true _ _ _ (self_bytes (record_of text)))))
  where
    later : ℕ → ℕ
    later = after_message conn (meant.Answered text) xids
message-led law f g k kept m now xids conn message r (Asks xid asked) group remark st is idle means h ranges =
    subst (λ es. StepLed f k kept m now later (line.Call conn message ∷ []) es remark g) (sym h.events)
    (led-append f h.come g k kept m now later later (line.Call conn message ∷ []) (lines_of h.rest ++ noted remark) (event.Arrive conn asked now ∷ []) (told_of h.rest) first polled)
  where
    later : ℕ → ℕ
    later = after_message conn (Asks xid asked) xids

    own : later conn ≡ xid
    own = cond-true (conn == conn) xid (xids conn) (eqb-self conn)

    first : Led f k kept m now later (line.Call conn message ∷ []) (event.Arrive conn asked now ∷ []) h.come
    first =
        comes-led f h.come k kept m now xids later (line.Call conn message) conn xid asked st (call-own conn message)
        (call-said f k kept now conn message r (Asks xid asked) is idle means) h.comes
        (kept-arrive f h.come conn now xid asked kept xids later h.comes own (λ n ne. cond-false (n == conn) xid (xids n) (ne_eqb n conn (λ e. ne (sym e)))) st.kept_so)

    rest_ranges : Each HasRanges (lines_of h.rest ++ noted remark)
    rest_ranges = subst (λ es. Each HasRanges (lines_of es ++ noted remark)) h.events ranges

    polled : Led h.come first.earlier first.later_kept first.seen now later (lines_of h.rest ++ noted remark) (told_of h.rest) g
    polled =
        poll-led law h.come g first.earlier first.later_kept first.seen now later conn h.rest remark first.stands
        (subst (λ x. PollGives h.come conn now x h.rest remark g) (sym own) h.polled) rest_ranges
message-led law f g k kept m now xids conn message r (Aborts xid lid) group remark st is idle means h ranges =
    gives-led f g k kept m now later (line.Call conn message ∷ []) (event.Abort conn lid h.0 ∷ []) group (Some (line.Out conn (reply_record xid (reply.Error h.0)))) remark h.1
    (pair-led f g k kept m now xids later (line.Call conn message) (line.Out conn (reply_record xid (reply.Error h.0))) (asks.Aborted conn xid lid) (event.Abort conn lid h.0) st
    (call-own conn message) (reply-own conn xid (reply.Error h.0)) (call-said f k kept now conn message r (Aborts xid lid) is idle means)
    (out-so conn (λ bytes. abort_says conn lid (abort_in xid bytes)) (reply_record xid (reply.Error h.0)) ∙ ap (abort_says conn lid) (abort-read law xid h.0)) h.1.happens tt
    (kept-xids g _ xids later (λ n p at. kept-xid conn (xids conn) xids refl n) (kept-same f g (event.Abort conn lid h.0) kept xids h.1.happens refl st.kept_so)))
  where
    later : ℕ → ℕ
    later = after_message conn (Aborts xid lid) xids

-- ---- pieces of streams

-- the lines of what a piece brought
abbrev brought_lines : ℕ → Option (List ℕ) → List Output
brought_lines conn None = []
brought_lines conn (Some message) = line.Call conn message ∷ []

record-led : ReplyLaw → (f g : InterleavedState) (k : ℕ) (kept : List Kept) (m now : ℕ) (xids : ℕ → ℕ) (conn : ℕ) (message : List ℕ) (o : Option Role) (group : List Event)
    (remark : Option Output) → StandsFor f xids now k kept m → role_at f.state.tables conn ≡ o → pending_at f.state.tables conn ≡ None
    → RecordGives f conn now message o group remark g → Each HasRanges (lines_of group ++ noted remark)
    → StepLed f k kept m now (λ n. cond (n == conn) (xid_of message o (xids conn)) (xids n)) (line.Call conn message ∷ []) group remark g
record-led law f g k kept m now xids conn message None group remark st is idle h ranges = absurd h
record-led law f g k kept m now xids conn message (Some r) group remark st is idle h ranges =
    message-led law f g k kept m now xids conn message r (meaning message r) group remark st is idle refl h ranges

piece-led : ReplyLaw → (f g : InterleavedState) (k : ℕ) (kept : List Kept) (m now : ℕ) (xids : ℕ → ℕ) (conn : ℕ) (b : Brought) (group : List Event)
    (remark : Option Output) → StandsFor f xids now k kept m → pending_at f.state.tables conn ≡ None
    → PieceGives f conn now b group remark g → Each HasRanges (lines_of group ++ noted remark)
    → StepLed f k kept m now (λ n. cond (n == conn) (xid_brought b (role_at f.state.tables conn) (xids conn)) (xids n)) (brought_lines conn (message_by b)) group remark g
piece-led law f g k kept m now xids conn NoEnd group remark st idle h ranges =
    still-led f g k kept m now _ group remark (stands-xids f xids _ now k kept m (λ n p at. kept-xid conn (xids conn) xids refl n) st) h
piece-led law f g k kept m now xids conn (Whole message) group remark st idle h ranges =
    record-led law f g k kept m now xids conn message (role_at f.state.tables conn) group remark st refl idle h ranges
piece-led law f g k kept m now xids conn TooLong group remark st idle h ranges =
    gone-led f g k kept m now _ conn (line.GoneLong conn) group remark (stands-xids f xids _ now k kept m (λ n p at. kept-xid conn (xids conn) xids refl n) st)
    (record { whole = tt; is_timed = refl }) (λ s. refl) h
piece-led law f g k kept m now xids conn After group remark st idle h ranges = absurd h

-- ---- service requests

-- each interrupt call that may be taken is read from its record
abbrev pub SrqsRead : InterleavedState → Type 0
SrqsRead f = (conn chan : ℕ) (i : Srq) → given f.state.tables.srq_state conn chan ≡ Front i → srq_in (srq_record i) ≡ Some i

sample-led : (f g : InterleavedState) (k : ℕ) (kept : List Kept) (m now : ℕ) (xids : ℕ → ℕ) (level : Bool) (group : List Event) (remark : Option Output) → StandsFor f xids now k kept m
    → Gives f (event.Sample now level ∷ []) None group remark g → StepLed f k kept m now xids [] group remark g
sample-led f g k kept m now xids level group remark st h =
    gives-led f g k kept m now xids [] (event.Sample now level ∷ []) group None remark h
    (event-led f g k kept m now xids xids (line.Srq level) (event.Sample now level) st (record { whole = tt; is_timed = refl }) refl h.happens tt
    (kept-same f g (event.Sample now level) kept xids h.happens refl st.kept_so))

-- a connection's own channel gives the front of its outbox, or nothing
own-given : (c : Channel) → given_by (Some c) c.number ≢ Gone
own-given c h = by c.outbox (sym (cond-true (c.number == c.number) (front_given c c.outbox) Gone (eqb-self c.number)) ∙ h) where
  by : (handles : List (List ℕ)) → front_given c handles ≢ Gone
  by [] e = cc
  by (handle ∷ rest) e = cc

srq-own : (conn : ℕ) (i : Srq) → IsOwn (line.Irq conn (srq_record i))
srq-own conn i = record { whole = record-some (call_message i.xid i.program i.version intr_srq ++ opaque i.handle); is_timed = refl }

taken-led : (f g : InterleavedState) (k : ℕ) (kept : List Kept) (m now : ℕ) (xids : ℕ → ℕ) (conn : ℕ) (c : Channel) (what : Given) (group : List Event) (remark : Option Output)
    → StandsFor f xids now k kept m → SrqsRead f → channel_at f.state.tables.srq_state conn ≡ Some c
    → Gives f (event.Take conn c.number what ∷ []) (Some (take_line conn what)) group remark g → StepLed f k kept m now xids [] group remark g
taken-led f g k kept m now xids conn c (Front i) group remark st reads is h =
    gives-led f g k kept m now xids [] (event.Take conn c.number (Front i) ∷ []) group _ remark h
    (event-led f g k kept m now xids xids (line.Irq conn (srq_record i)) (event.Take conn c.number (Front i)) st (srq-own conn i)
    (ap (irq_says conn (srq_record i)) is ∙ ap (front_says conn c) (reads conn c.number i (sym (interleaved-does f g (event.Take conn c.number (Front i)) h.happens).step.given_is)))
    h.happens tt (kept-same f g (event.Take conn c.number (Front i)) kept xids h.happens refl st.kept_so))
taken-led f g k kept m now xids conn c Empty group remark st reads is h =
    gives-led f g k kept m now xids [] (event.Take conn c.number Empty ∷ []) group _ remark h
    (event-led f g k kept m now xids xids (line.IrqNone conn) (event.Take conn c.number Empty) st (record { whole = tt; is_timed = refl })
    (ap (none_says conn) is) h.happens tt (kept-same f g (event.Take conn c.number Empty) kept xids h.happens refl st.kept_so))
taken-led f g k kept m now xids conn c Gone group remark st reads is h =
    let told = (interleaved-does f g (event.Take conn c.number Gone) h.happens).step.given_is in
    absurd (own-given c (ap (λ o. given_by o c.number) (sym is) ∙ sym told))

channel-led : (f g : InterleavedState) (k : ℕ) (kept : List Kept) (m now : ℕ) (xids : ℕ → ℕ) (conn : ℕ) (o : Option Channel) (group : List Event) (remark : Option Output)
    → StandsFor f xids now k kept m → SrqsRead f → channel_at f.state.tables.srq_state conn ≡ o
    → ChannelGives f conn o group remark g → StepLed f k kept m now xids [] group remark g
channel-led f g k kept m now xids conn None group remark st reads is h =
    gives-led f g k kept m now xids [] [] group (Some (line.IrqClosed conn)) remark h
    (subst (Led f k kept m now xids (line.IrqClosed conn ∷ []) []) (same_Some f g h.happens)
    (quiet-led f k kept m now xids (line.IrqClosed conn) st (record { whole = tt; is_timed = refl })
    (quiet-so (is_none (channel_at f.state.tables.srq_state conn)) (ap (λ (x : Option Channel). is_none x) is))))
channel-led f g k kept m now xids conn (Some c) group remark st reads is h = taken-led f g k kept m now xids conn c h.0 group remark st reads is h.1

-- ---- steps

-- what is told of a piece is refused where a call is pending
piece-idle : (s : Position) (conn : ℕ) (bytes : List ℕ) → gateway_refusal s (In conn bytes) ≡ None → pending_at s.interleaved.state.tables conn ≡ None
piece-idle s conn bytes h = by (is_none (role_at s.interleaved.state.tables conn)) (is_some (pending_at s.interleaved.state.tables conn)) refl h where
  by : (dead busy : Bool) → is_some (pending_at s.interleaved.state.tables conn) ≡ busy
      → cond dead (Some cause.Conn) (cond busy (Some cause.Busy) (refused_by (brought (s.streams conn) bytes))) ≡ None → pending_at s.interleaved.state.tables conn ≡ None
  by true busy e x = cc
  by false true e x = cc
  by false false e x = nothing (pending_at s.interleaved.state.tables conn) e

below-max : (m now later : ℕ) → m ≤ now → m ≤ max now later
below-max m now later past = omega arith

-- a moment that is told counts where it is later
stands-at : (f : InterleavedState) (xids : ℕ → ℕ) (now later k : ℕ) (kept : List Kept) (m : ℕ) → StandsFor f xids now k kept m → StandsFor f xids (max now later) k kept m
stands-at f xids now later k kept m st = record { fit = st.fit; early = st.early; past = below-max m now later st.past; kept_so = st.kept_so }

-- the lines of the message that a command brings to its end
abbrev front_lines : Position → Command → List Output
front_lines s command = message_lines command (message_after s.streams command)

pub step-led : ReplyLaw → (s : Position) (command : Command) (group : List Event) (remark : Option Output) (g : InterleavedState) (k : ℕ) (kept : List Kept) (m : ℕ)
    → gateway_refusal s command ≡ None → StepGives s command group remark g → StandsFor s.interleaved s.xids s.moment k kept m → SrqsRead s.interleaved
    → Each HasRanges (front_lines s command ++ lines_of group ++ noted remark)
    → StepLed s.interleaved k kept m (moment_after s.moment command) (xids_after s.interleaved.state.tables s.streams s.xids command) (front_lines s command) group remark g
step-led law s (Up conn r) group remark g k kept m allowed h st reads ranges = up-led s.interleaved g k kept m s.moment s.xids conn r group remark st h
step-led law s (In conn bytes) group remark g k kept m allowed h st reads ranges =
    let b = brought (s.streams conn) bytes in
    let all = (split-front HasRanges (front_lines s (In conn bytes)) (lines_of group) (noted remark) ranges).1 in
    subst (λ front. StepLed s.interleaved k kept m s.moment (xids_after s.interleaved.state.tables s.streams s.xids (In conn bytes)) front group remark g) (same-lines (message_by b))
    (piece-led law s.interleaved g k kept m s.moment s.xids conn b group remark st (piece-idle s conn bytes allowed) h all)
  where
    same-lines : (o : Option (List ℕ)) → brought_lines conn o ≡ message_lines (In conn bytes) o
    same-lines None = refl
    same-lines (Some message) = refl
step-led law s (Down conn) group remark g k kept m allowed h st reads ranges =
    gone-led s.interleaved g k kept m s.moment s.xids conn (line.GoneDown conn) group remark st (record { whole = tt; is_timed = refl }) (λ t. refl) h
step-led law s (At moment) group remark g k kept m allowed h st reads ranges =
    still-led s.interleaved g k kept m (max s.moment moment) s.xids group remark (stands-at s.interleaved s.xids s.moment moment k kept m st) h
step-led law s (Poll conn) group remark g k kept m allowed h st reads ranges = poll-led law s.interleaved g k kept m s.moment s.xids conn group remark st h ranges
step-led law s Sample group remark g k kept m allowed h st reads ranges = sample-led s.interleaved g k kept m s.moment s.xids h.0 group remark st h.1
step-led law s (Take conn) group remark g k kept m allowed h st reads ranges =
    channel-led s.interleaved g k kept m s.moment s.xids conn (channel_at s.interleaved.state.tables.srq_state conn) group remark st reads refl h
step-led law s (Dial conn up) group remark g k kept m allowed h st reads ranges =
    gives-led s.interleaved g k kept m s.moment s.xids [] (event.Answer conn s.moment false (Some up) false (reply.Error h.0) ∷ []) group _ remark h.1
    (dial-led law s.interleaved g k kept m s.moment s.xids conn false up false (reply.Error h.0) st h.1.happens)
step-led law s (Inst p secondary text) group remark g k kept m allowed h st reads ranges = still-led s.interleaved g k kept m s.moment s.xids group remark st h
step-led law s (Plug p secondary name) group remark g k kept m allowed h st reads ranges = still-led s.interleaved g k kept m s.moment s.xids group remark st h
step-led law s (Pull p secondary) group remark g k kept m allowed h st reads ranges = still-led s.interleaved g k kept m s.moment s.xids group remark st h
step-led law s (Set p secondary b) group remark g k kept m allowed h st reads ranges = still-led s.interleaved g k kept m s.moment s.xids group remark st h
step-led law s (Fail n) group remark g k kept m allowed h st reads ranges = still-led s.interleaved g k kept m s.moment s.xids group remark st h
