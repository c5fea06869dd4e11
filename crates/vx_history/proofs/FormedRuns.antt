-- A formed run: its items one behind the other, its text, and how a check of it ends.
use Rattle.std.proofs.Common.{◌≡◌, ℕ, ◌<◌, ◌^◌, Bool, true, false, cond, List, [], ◌∷◌, ◌++◌, filter, flat_map, Option, Some, None, refl, sym, ap, ◌∙◌, subst, arith, append-nil, append_assoc}
use Rattle.std.specs.List.{All}
use Rattle.std.proofs.lemmas.Option.{none-some, same_Some}
use Rattle.std.proofs.lemmas.List.Concat.{flat_map-append}
use Rattle.std.proofs.lemmas.List.Elements.{All-append, All-cons, All-head, All-nil, All-tail, filter-append}
use Rattle.vx_text.specs.TextLines.{lines}
use Rattle.vx_calls.specs.declared.calls.Role.{Role}
use Rattle.vx_488.specs.declared.transfers.Transfer.{Transfer}
use Rattle.vx_script.specs.Command.{Command, Up, In, Down, At, Poll, Sample, Take, Dial, Inst, Plug, Pull, Set, Fail}
use Rattle.vx_script.specs.declared.Version.TheVariants as version
use Rattle.vx_trace.specs.Output.{Output}
use Rattle.vx_trace.specs.Output as line
use Rattle.vx_trace.specs.Text.{HasRanges, line_text, line_text2}
use Rattle.vx_trace.specs.Laws.{OneEnd2Law}
use Rattle.vx_rules.specs.SrqState.{Channel, channel_at}
use Rattle.vx_rules.specs.Lists.{along}
use Rattle.vx_rules.proofs.Laws.Lists.{along-none}
use Rattle.vx_rules.specs.Legal.{IsLegal}
use Rattle.vx_rules.specs.State.{role_at}
use Rattle.vx_flow.specs.Event.{Event}
use Rattle.vx_flow.specs.Event as event
use Rattle.vx_flow.specs.InterleavedState.{Turn, InterleavedState, first_interleaved, turn_after}
use Rattle.vx_flow.specs.InterleavedStep.{interleaved_step}
use Rattle.vx_flow.specs.Linearization.{linearized, linearization_from}
use Rattle.vx_flow.specs.Poll.{Ending, Answered, Waited, Dialed, begins, moved_events, end_events}
use Rattle.vx_flow.proofs.Laws.{first-sound}
use Rattle.vx_exchange.specs.Meaning.{Meaning, Junk, Asks, Aborts, meaning}
use Rattle.vx_exchange.specs.Meaning as meant
use Rattle.vx_run.specs.Stream.{Brought, NoEnd, Whole, TooLong, After, brought, message_by}
use Rattle.vx_run.specs.Item.{Item, events, noted}
use Rattle.vx_run.specs.RunText.{IsPrintable, message_lines, item_lines2, item_text}
use Rattle.vx_run.specs.Position.{Position, first_position, xids_after, moment_after, message_after}
use Rattle.vx_run.specs.Giving.{Gives, PollGives, MessageGives, RecordGives, PieceGives, ChannelGives, StepGives}
use Rattle.vx_run.specs.Forming.{Forms, FormsAll}
use Rattle.vx_history.specs.Shown.{Timed}
use Rattle.vx_history.specs.CheckState.{CheckState, Kept, Free, Nothing, abort_port, beginning}
use Rattle.vx_history.specs.History.{Through, Walks}
use Rattle.vx_history.specs.Laws.{ReplyLaw, LawfulLaw}
use Rattle.vx_history.specs.Formed.{run_trace, is_told, told_events, FormedLaw, FormedLegalLaw, ToldLaw}
use Rattle.vx_history.proofs.FormedReads.{Each, each-all, Reads, reads-one, reads-append, IsTold, texts_of, HasLines, has-lines, walks-reads}
use Rattle.vx_history.proofs.FormedStands.{here, timed, IsOwn, StandsFor, Led}
use Rattle.vx_history.proofs.FormedPolls.{lines_of, told_of, split-front}
use Rattle.vx_history.proofs.FormedSteps.{stands-xids, step-led}
use Rattle.vx_history.proofs.FormedSrqs.{AskedSpelled, CallsSpelled, means-sendable, IsReady, first-ready, ready-read, BringsSendable, ready-step}

-- ---- interrupt calls stay such as are read

ready-along : (es : List Event) (f g : InterleavedState) → Each BringsSendable es → along interleaved_step (Some f) es ≡ Some g → IsReady f.state.tables → IsReady g.state.tables
ready-along [] f g brings h ready = subst (λ (x : InterleavedState). IsReady x.state.tables) (same_Some f g h) ready
ready-along (e ∷ es) f g brings h ready = by (interleaved_step f e) refl h (λ mid at. ready-along es mid g brings.1 at) where
  by : (o : Option InterleavedState) → interleaved_step f e ≡ o → along interleaved_step o es ≡ Some g
      → ((mid : InterleavedState) → along interleaved_step (Some mid) es ≡ Some g → IsReady mid.state.tables → IsReady g.state.tables) → IsReady g.state.tables
  by None is k later = absurd (none-some g (sym (along-none interleaved_step es) ∙ k))
  by (Some mid) is k later = later mid k (ready-step f mid e ready brings.0 is)

ready-gives : (f g : InterleavedState) (given group : List Event) (line shown : Option Output) → Gives f given line group shown g → Each BringsSendable given
    → IsReady f.state.tables → IsReady g.state.tables
ready-gives f g given group line shown h brings ready = ready-along given f g brings h.happens ready

each-append : {X : Type 0} (P : X → Type 0) (xs ys : List X) → Each P xs → Each P ys → Each P (xs ++ ys)
each-append P [] ys h k = k
each-append P (x ∷ xs) ys h k = (h.0, each-append P xs ys h.1 k)

ready-poll : (f g : InterleavedState) (conn now xid : ℕ) (group : List Event) (shown : Option Output) → PollGives f conn now xid group shown g
    → IsReady f.state.tables → IsReady g.state.tables
ready-poll f g conn now xid group shown h ready =
    subst (λ (x : InterleavedState). IsReady x.state.tables) (sym h.polls.at_now)
    (ready-along (end_events conn now h.ending) h.polls.behind h.polls.last (end h.ending) h.polls.ended
    (ready-along (cond (begins f conn now) (event.Begin conn now ∷ []) [] ++ moved_events conn h.moves) f h.polls.behind
    (each-append BringsSendable (cond (begins f conn now) (event.Begin conn now ∷ []) []) (moved_events conn h.moves) (begun (begins f conn now)) (moved h.moves)) h.polls.runs_to ready))
  where
    begun : (b : Bool) → Each BringsSendable (cond b (event.Begin conn now ∷ []) [])
    begun true = (tt, tt)
    begun false = tt

    moved : (moves : List Transfer) → Each BringsSendable (moved_events conn moves)
    moved [] = tt
    moved (t ∷ ts) = (tt, tt)

    end : (ending : Ending) → Each BringsSendable (end_events conn now ending)
    end (Answered ran level told) = (tt, tt)
    end (Waited why) = tt
    end (Dialed host port) = (tt, tt)

ready-message : AskedSpelled → CallsSpelled → (f g : InterleavedState) (conn now : ℕ) (message : List ℕ) (r : Role) (mean : Meaning) (group : List Event) (shown : Option Output)
    → All (λ b. b < 2 ^ 8) message → meaning message r ≡ mean → MessageGives f conn now mean group shown g → IsReady f.state.tables → IsReady g.state.tables
ready-message asks calls f g conn now message r Junk group shown bytes is h ready = ready-gives f g _ group _ shown h (tt, tt) ready
ready-message asks calls f g conn now message r (meant.Answered text) group shown bytes is h ready = ready-gives f g _ group _ shown h tt ready
ready-message asks calls f g conn now message r (Asks xid asked) group shown bytes is h ready =
    ready-poll h.come g conn now xid h.rest shown h.polled
    (ready-step f h.come (event.Arrive conn asked now) ready (means-sendable asks calls message r xid asked bytes is) h.comes)
ready-message asks calls f g conn now message r (Aborts xid lid) group shown bytes is h ready = ready-gives f g _ group _ shown h.1 (tt, tt) ready

ready-record : AskedSpelled → CallsSpelled → (f g : InterleavedState) (conn now : ℕ) (message : List ℕ) (o : Option Role) (group : List Event) (shown : Option Output)
    → All (λ b. b < 2 ^ 8) message → RecordGives f conn now message o group shown g → IsReady f.state.tables → IsReady g.state.tables
ready-record asks calls f g conn now message None group shown bytes h ready = absurd h
ready-record asks calls f g conn now message (Some r) group shown bytes h ready =
    ready-message asks calls f g conn now message r (meaning message r) group shown bytes refl h ready

ready-piece : AskedSpelled → CallsSpelled → (f g : InterleavedState) (conn now : ℕ) (piece : List ℕ) (b : Brought) (group : List Event) (shown : Option Output)
    → Each HasRanges (message_lines (In conn piece) (message_by b)) → PieceGives f conn now b group shown g → IsReady f.state.tables → IsReady g.state.tables
ready-piece asks calls f g conn now piece NoEnd group shown ranges h ready = ready-gives f g _ group _ shown h tt ready
ready-piece asks calls f g conn now piece (Whole message) group shown ranges h ready =
    ready-record asks calls f g conn now message (role_at f.state.tables conn) group shown ranges.0.1 h ready
ready-piece asks calls f g conn now piece TooLong group shown ranges h ready = ready-gives f g _ group _ shown h (tt, tt) ready
ready-piece asks calls f g conn now piece After group shown ranges h ready = absurd h

ready-channel : (f g : InterleavedState) (conn : ℕ) (o : Option Channel) (group : List Event) (shown : Option Output) → ChannelGives f conn o group shown g
    → IsReady f.state.tables → IsReady g.state.tables
ready-channel f g conn None group shown h ready = ready-gives f g _ group _ shown h tt ready
ready-channel f g conn (Some c) group shown h ready = ready-gives f g _ group _ shown h.1 (tt, tt) ready

pub ready-command : AskedSpelled → CallsSpelled → (s : Position) (command : Command) (group : List Event) (shown : Option Output) (g : InterleavedState)
    → Each HasRanges (message_lines command (message_after s.streams command)) → StepGives s command group shown g → IsReady s.interleaved.state.tables → IsReady g.state.tables
ready-command asks calls s (Up conn r) group shown g ranges h ready = ready-gives s.interleaved g _ group _ shown h (tt, tt) ready
ready-command asks calls s (In conn bytes) group shown g ranges h ready =
    ready-piece asks calls s.interleaved g conn s.moment bytes (brought (s.streams conn) bytes) group shown ranges h ready
ready-command asks calls s (Down conn) group shown g ranges h ready = ready-gives s.interleaved g _ group _ shown h (tt, tt) ready
ready-command asks calls s (Poll conn) group shown g ranges h ready = ready-poll s.interleaved g conn s.moment (s.xids conn) group shown h ready
ready-command asks calls s Sample group shown g ranges h ready = ready-gives s.interleaved g _ group _ shown h.1 (tt, tt) ready
ready-command asks calls s (Take conn) group shown g ranges h ready =
    ready-channel s.interleaved g conn (channel_at s.interleaved.state.tables.srq_state conn) group shown h ready
ready-command asks calls s (Dial conn up) group shown g ranges h ready = ready-gives s.interleaved g _ group _ shown h.1 (tt, tt) ready
ready-command asks calls s (At moment) group shown g ranges h ready = ready-gives s.interleaved g _ group _ shown h tt ready
ready-command asks calls s (Inst p secondary text) group shown g ranges h ready = ready-gives s.interleaved g _ group _ shown h tt ready
ready-command asks calls s (Plug p secondary name) group shown g ranges h ready = ready-gives s.interleaved g _ group _ shown h tt ready
ready-command asks calls s (Pull p secondary) group shown g ranges h ready = ready-gives s.interleaved g _ group _ shown h tt ready
ready-command asks calls s (Set p secondary b) group shown g ranges h ready = ready-gives s.interleaved g _ group _ shown h tt ready
ready-command asks calls s (Fail n) group shown g ranges h ready = ready-gives s.interleaved g _ group _ shown h tt ready

-- ---- items

-- what is led so is led with the same xids
led-xids : (f g : InterleavedState) (k : ℕ) (kept : List Kept) (m now : ℕ) (xids later : ℕ → ℕ) (lines : List Output) (es : List Event) → ((n : ℕ) → later n ≡ xids n)
    → Led f k kept m now xids lines es g → Led f k kept m now later lines es g
led-xids f g k kept m now xids later lines es same led = record {
  earlier = led.earlier;
  later_kept = led.later_kept;
  seen = led.seen;
  reads = led.reads;
  stands = stands-xids g xids later now led.earlier led.later_kept led.seen (λ n p at. same n) led.stands;
  own = led.own;
}

-- the lines of an item that has its message
item-lines : (before after : Position) (item : Item) → Forms before item after
    → message_lines item.command (message_after before.streams item.command) ++ lines_of item.group ++ noted item.note ≡ item_lines2 item
item-lines before after item h = ap (λ o. message_lines item.command o ++ lines_of item.group ++ noted item.note) (sym h.message)

pub item-led : ReplyLaw → (before after : Position) (item : Item) (k : ℕ) (kept : List Kept) (m : ℕ) → Forms before item after
    → StandsFor before.interleaved before.xids before.moment k kept m → IsReady before.interleaved.state.tables → All HasRanges (item_lines2 item)
    → Led before.interleaved k kept m item.moment after.xids (item_lines2 item) (told_of item.group) after.interleaved
item-led law before after item k kept m h st ready ranges =
    let is = item-lines before after item h in
    let each = subst (Each HasRanges) (sym is) (each-all HasRanges (item_lines2 item) ranges) in
    let led = step-led law before item.command item.group item.note after.interleaved k kept m h.allowed h.gives st (ready-read before.interleaved.state.tables ready) each in
    subst (λ now. Led before.interleaved k kept m now after.xids (item_lines2 item) (told_of item.group) after.interleaved) (sym h.moment ∙ sym h.at)
    (subst (λ ls. Led before.interleaved k kept m (moment_after before.moment item.command) after.xids ls (told_of item.group) after.interleaved) is
    (led-xids before.interleaved after.interleaved k kept m (moment_after before.moment item.command) (xids_after before.interleaved.state.tables before.streams before.xids item.command) after.xids
    (message_lines item.command (message_after before.streams item.command) ++ lines_of item.group ++ noted item.note) (told_of item.group) h.xids led))

pub ready-item : AskedSpelled → CallsSpelled → (before after : Position) (item : Item) → Forms before item after → All HasRanges (item_lines2 item)
    → IsReady before.interleaved.state.tables → IsReady after.interleaved.state.tables
ready-item asks calls before after item h ranges ready =
    let each = subst (Each HasRanges) (sym (item-lines before after item h)) (each-all HasRanges (item_lines2 item) ranges) in
    ready-command asks calls before item.command item.group item.note after.interleaved
    (split-front HasRanges (message_lines item.command (message_after before.streams item.command)) (lines_of item.group) (noted item.note) each).0 h.gives ready

-- ---- runs

-- the lines of a run, each with its moment
abbrev run_lines : List Item → List Timed
run_lines items = flat_map (λ (item : Item). timed item.moment (item_lines2 item)) items

-- the lines of an item have texts
lines-told : (now : ℕ) (ls : List Output) → now < 2 ^ 64 → All IsOwn ls → All HasRanges ls → All IsTold (timed now ls)
lines-told now [] small own ranges = All-nil IsTold
lines-told now (l ∷ ls) small own ranges =
    let mine = All-head IsOwn l ls own in
    All-cons IsTold (record { moment = now; line = l }) (timed now ls)
    (record { is_line = (mine.whole, All-head HasRanges l ls ranges); fits = small; untimed = λ none. absurd (true-false (sym mine.is_timed ∙ none)) })
    (lines-told now ls small (All-tail IsOwn l ls own) (All-tail HasRanges l ls ranges))
  where
    true-false : true ≡ false → ⊥
    true-false e = cc

-- a run's lines are taken one behind the other
record RunLed (f : InterleavedState) (k : ℕ) (kept : List Kept) (m : ℕ) (items : List Item) (g : InterleavedState) : Type 0 where
  earlier : ℕ
  later_kept : List Kept
  seen : ℕ
  reads : Reads (here f k kept m Free) (run_lines items) (told_of (events items)) (here g earlier later_kept seen Free)
  told : All IsTold (run_lines items)

run-led : ReplyLaw → AskedSpelled → CallsSpelled → (items : List Item) (before end : Position) (k : ℕ) (kept : List Kept) (m : ℕ) → FormsAll before items end
    → All IsPrintable items → StandsFor before.interleaved before.xids before.moment k kept m → IsReady before.interleaved.state.tables → RunLed before.interleaved k kept m items end.interleaved
run-led law asks calls [] before end k kept m forms printable st ready = record {
  earlier = k;
  later_kept = kept;
  seen = m;
  reads = (refl, ap (λ (p : Position). here p.interleaved k kept m Free) (sym forms));
  told = All-nil IsTold;
}
run-led law asks calls (item ∷ items) before end k kept m (next, h, rest) printable st ready =
    let prints = All-head IsPrintable item items printable in
    let led = item-led law before next item k kept m h st ready prints.lines in
    let stands = subst (λ now. StandsFor next.interleaved next.xids now led.earlier led.later_kept led.seen) h.at led.stands in
    let later = run-led law asks calls items next end led.earlier led.later_kept led.seen rest (All-tail IsPrintable item items printable) stands
    (ready-item asks calls before next item h prints.lines ready) in
    record {
      earlier = later.earlier;
      later_kept = later.later_kept;
      seen = later.seen;
      reads =
          subst (λ es. Reads (here before.interleaved k kept m Free) (timed item.moment (item_lines2 item) ++ run_lines items) es (here end.interleaved later.earlier later.later_kept later.seen Free))
          (sym (filter-append is_told item.group (events items)))
          (reads-append (here before.interleaved k kept m Free) (timed item.moment (item_lines2 item)) (run_lines items) (told_of item.group) (told_of (events items))
          (here next.interleaved led.earlier led.later_kept led.seen Free) (here end.interleaved later.earlier later.later_kept later.seen Free) led.reads later.reads);
      told =
          All-append IsTold (timed item.moment (item_lines2 item)) (run_lines items) (lines-told item.moment (item_lines2 item) prints.moment led.own prints.lines) later.told;
    }

-- a gateway as it starts
first-stands : StandsFor (first_interleaved abort_port) (λ n. 0) 0 0 [] 0
first-stands = record {
  fit = record {
    bounded = record { sound = first-sound abort_port; bytes = λ u is. absurd (none-some u is); port = omega arith };
    numbered = λ m r is. absurd (none-some r is);
  };
  early = omega arith;
  past = omega arith;
  kept_so = λ conn p at. absurd (none-some p at);
}

-- ---- texts

texts-timed : (now : ℕ) (ls : List Output) → texts_of (timed now ls) ≡ flat_map (line_text2 now) ls
texts-timed now [] = refl
texts-timed now (l ∷ ls) = ap (λ t. line_text2 now l ++ t) (texts-timed now ls)

texts-append : (ts us : List Timed) → texts_of (ts ++ us) ≡ texts_of ts ++ texts_of us
texts-append ts us = flat_map-append (λ (t : Timed). line_text2 t.moment t.line) ts us

texts-run : (items : List Item) → texts_of (run_lines items) ≡ flat_map (item_text version.Two) items
texts-run [] = refl
texts-run (item ∷ items) =
    texts-append (timed item.moment (item_lines2 item)) (run_lines items)
    ∙ ap (λ t. t ++ texts_of (run_lines items)) (texts-timed item.moment (item_lines2 item))
    ∙ ap (λ t. flat_map (line_text2 item.moment) (item_lines2 item) ++ t) (texts-run items)

-- the lines of a run's trace
abbrev trace_lines : List Item → List Timed
trace_lines items = record { moment = 0; line = line.TraceHead } ∷ (run_lines items ++ record { moment = 0; line = line.Done } ∷ [])

trace-text : (items : List Item) → texts_of (trace_lines items) ≡ run_trace items
trace-text items =
    ap (λ t. line_text line.TraceHead ++ t) (texts-append (run_lines items) (record { moment = 0; line = line.Done } ∷ []) ∙ ap (λ t. t ++ line_text line.Done) (texts-run items))
    ∙ sym (append_assoc (line_text line.TraceHead) (flat_map (item_text version.Two) items) (line_text line.Done))

-- ---- the law

pub formed-tells : OneEnd2Law → ReplyLaw → AskedSpelled → CallsSpelled → FormedLaw
formed-tells ends law asks calls items (end, forms) printable = record {
  far = Through (told_events items) after;
  walks =
      subst (λ texts. Walks 1 beginning texts (Through (told_events items) after)) (sym lines_are)
      (walks-reads 1 beginning cut.texts (trace_lines items) (told_events items) after cut.show reads);
  told_is = refl;
} where
  run : RunLed (first_interleaved abort_port) 0 [] 0 items end.interleaved
  run = run-led law asks calls items (first_position abort_port) end 0 [] 0 forms printable first-stands (first-ready abort_port)

  after : CheckState
  after = here end.interleaved run.earlier run.later_kept run.seen Nothing

  cut : HasLines (trace_lines items)
  cut = has-lines ends (trace_lines items)
      (All-cons IsTold _ (run_lines items ++ record { moment = 0; line = line.Done } ∷ []) (record { is_line = (tt, tt); fits = omega arith; untimed = λ e. refl })
      (All-append IsTold (run_lines items) (record { moment = 0; line = line.Done } ∷ []) run.told
      (All-cons IsTold _ [] (record { is_line = (tt, tt); fits = omega arith; untimed = λ e. refl }) (All-nil IsTold))))

  lines_are : lines (run_trace items) ≡ cut.texts
  lines_are = ap lines (sym (trace-text items)) ∙ cut.lines_are

  reads : Reads beginning (trace_lines items) (told_events items) after
  reads = (
    [],
    here (first_interleaved abort_port) 0 [] 0 Free,
    told_events items,
    refl,
    refl,
    subst (λ es. Reads (here (first_interleaved abort_port) 0 [] 0 Free) (run_lines items ++ record { moment = 0; line = line.Done } ∷ []) es after) (append-nil (told_events items))
        (reads-append (here (first_interleaved abort_port) 0 [] 0 Free) (run_lines items) (record { moment = 0; line = line.Done } ∷ []) (told_events items) []
        (here end.interleaved run.earlier run.later_kept run.seen Free) after run.reads
        (reads-one (here end.interleaved run.earlier run.later_kept run.seen Free) (record { moment = 0; line = line.Done }) [] after refl)),
  )

-- ---- dials that are asked for are no entries

told-linearizes : (turn : Option Turn) (h : List Event) → linearization_from turn (filter is_told h) ≡ linearization_from turn h
told-linearizes turn [] = refl
told-linearizes turn (event.Dial conn now ∷ es) = told-linearizes turn es
told-linearizes turn (e ∷ es) = ap (λ entries. linearized turn e ++ entries) (told-linearizes (turn_after turn e) es)

pub told-law : ToldLaw
told-law items = told-linearizes None (events items)

-- all events of a formed run linearize to a legal history
pub formed-legal : FormedLaw → LawfulLaw → FormedLegalLaw
formed-legal law lawful items formed printable =
    subst (IsLegal abort_port) (told-law items) (lawful (run_trace items) (told_events items) (law items formed printable))
