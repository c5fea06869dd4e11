-- What is counted of a step is what its lines and its answer tell.
use Rattle.std.proofs.Common.{◌≡◌, ℕ, ◌+◌, Bool, false, cond, List, [], ◌∷◌, ◌++◌, length, Option, Some, None, refl, sym, ap, ◌∙◌, arith, append-nil, length-append}
use Rattle.std.specs.Prelude.{count_by}
use Rattle.std.specs.List.{flat_map}
use Rattle.std.proofs.lemmas.Grind.{flat_map-append}
use Rattle.std.proofs.lemmas.List.Sums.{sum_by-append}
use Rattle.vx_calls.specs.declared.calls.Role.{Role}
use Rattle.vx_calls.specs.declared.codes.ErrorCode.{ErrorCode}
use Rattle.vx_calls.specs.Reply as reply
use Rattle.vx_488.specs.declared.transfers.Transfer.{Transfer}
use Rattle.vx_script.specs.Command.{Command, Up, In, Down, At, Poll, Sample, Take, Dial, Inst, Plug, Pull, Set, Fail}
use Rattle.vx_trace.specs.Output.{Output, Bus, Out, IrqClosed, GoneDown, GoneJunk, GoneLong}
use Rattle.vx_exchange.specs.SrqState.{Channel, Given, Front, channel_at}
use Rattle.vx_record.specs.Fragments.{record_of}
use Rattle.vx_exchange.specs.Meaning.{Meaning, Junk, Asks, Aborts, meaning, reply_record}
use Rattle.vx_exchange.specs.Meaning as meant
use Rattle.vx_rules.specs.State.{role_at}
use Rattle.vx_flow.specs.Event.{Event}
use Rattle.vx_flow.specs.Event as event
use Rattle.vx_flow.specs.InterleavedState.{InterleavedState}
use Rattle.vx_flow.specs.Poll.{Ending, Waited, moved_events, run_events, end_events}
use Rattle.vx_gen.specs.declared.telling.Counts.{Counts}
use Rattle.vx_player.specs.Gateway.{Gateway}
use Rattle.vx_run.specs.Stream.{Brought, NoEnd, Whole, TooLong, After, brought}
use Rattle.vx_run.specs.Item.{Item, bus_lines, noted, item_lines, events, answer_errors, errors_of, moved, shown_moves}
use Rattle.vx_player.specs.Stage.{Stage, tables_of}
use Rattle.vx_player.specs.Making.{PollMakes, MessageMakes, RecordMakes, PieceMakes, ChannelMakes, Makes}
use Rattle.vx_run.specs.Notes.{is_wait, poll_line, take_line}
use Rattle.vx_player.specs.Play.{PlayerTakes}
use Rattle.vx_player.specs.Generated.{interrupts, is_failure, errors, notes, counts_of}
use Rattle.vx_player.specs.Counting.{is_interrupt, counts_behind}
use Rattle.vx_player.proofs.PollEvents.{poll-gives}
use Rattle.vx_player.proofs.Shown.{waits, makes-plain, item-shown}

-- ---- the interrupts of a step are those that its note tells

abbrev Tells : List Event → Option Output → Type 0
Tells group output = length (flat_map interrupts group) ≡ count_by is_interrupt (noted output)

-- these events and this note do
tells : (group given : List Event) (output shown : Option Output) → group ≡ given → output ≡ shown → Tells given shown → Tells group output
tells group given output shown group_is output_is h =
    ap (λ g. length (flat_map interrupts g)) group_is ∙ h ∙ sym (ap (λ o. count_by is_interrupt (noted o)) output_is)

-- a poll takes no interrupt, and its note tells none
poll-none : (f : InterleavedState) (conn now : ℕ) (moves : List Transfer) (ending : Ending)
    → flat_map interrupts (run_events f conn now moves ++ end_events conn now ending) ≡ []
poll-none f conn now moves ending = poll-gives interrupts f conn now moves ending refl ∙ by moves ending where
  by : (moves : List Transfer) (ending : Ending) → flat_map interrupts (moved_events conn moves) ++ flat_map interrupts (end_events conn now ending) ≡ []
  by [] (Waited why) = refl
  by [] _ = refl
  by (t ∷ ts) (Waited why) = refl
  by (t ∷ ts) _ = refl

line-none : (conn xid : ℕ) (ending : Ending) → 0 ≡ count_by is_interrupt (poll_line conn xid ending ∷ [])
line-none conn xid (Waited why) = sym (ap (λ b. 0 + cond b 1 0) (waits conn why).no_interrupt)
line-none conn xid _ = refl

poll-tells : (before after : Gateway) (conn now xid : ℕ) (group : List Event) (output : Option Output) → PollMakes before conn now xid group output after → Tells group output
poll-tells before after conn now xid group output h =
    tells group _ output _ h.events h.told
    (ap length (poll-none before.interleaved conn now after.bus.means.moves h.ending) ∙ line-none conn xid h.ending)

-- a message
message-tells : (g : Gateway) (conn now : ℕ) (m : Meaning) (group : List Event) (output : Option Output) (after : Gateway)
    → MessageMakes g conn now m group output after → Tells group output
message-tells g conn now Junk group output after h = tells group (event.Down conn ∷ []) output (Some (GoneJunk conn)) h.events h.told refl
message-tells g conn now (meant.Answered message) group output after h = tells group [] output (Some (Out conn (record_of message))) h.0.none h.1 refl
message-tells g conn now (Asks xid asked) group output after h =
    tells group (event.Arrive conn asked now ∷ h.rest) output output h.events refl (poll-tells h.come after conn now xid h.rest output h.polled)
message-tells g conn now (Aborts xid lid) group output after h =
    tells group (event.Abort conn lid h.error ∷ []) output (Some (Out conn (reply_record xid (reply.Error h.error)))) h.events h.told refl

record-tells : (g : Gateway) (conn now : ℕ) (message : List ℕ) (r : Option Role) (group : List Event) (output : Option Output) (after : Gateway)
    → RecordMakes g conn now message r group output after → Tells group output
record-tells g conn now message None group output after h = absurd h
record-tells g conn now message (Some r) group output after h = message-tells g conn now (meaning message r) group output after h

-- a piece
piece-tells : (g : Gateway) (conn now : ℕ) (b : Brought) (group : List Event) (output : Option Output) (after : Gateway)
    → PieceMakes g conn now b group output after → Tells group output
piece-tells g conn now NoEnd group output after h = tells group [] output None h.0.none h.1 refl
piece-tells g conn now (Whole message) group output after h = record-tells g conn now message (role_at g.interleaved.state.tables conn) group output after h
piece-tells g conn now TooLong group output after h = tells group (event.Down conn ∷ []) output (Some (GoneLong conn)) h.events h.told refl
piece-tells g conn now After group output after h = absurd h

-- a take
given-tells : (conn channel : ℕ) (given : Given) → Tells (event.Take conn channel given ∷ []) (Some (take_line conn given))
given-tells conn channel (Front srq) = refl
given-tells conn channel _ = refl

channel-tells : (g : Gateway) (conn : ℕ) (c : Option Channel) (group : List Event) (output : Option Output) (after : Gateway)
    → ChannelMakes g conn c group output after → Tells group output
channel-tells g conn None group output after h = tells group [] output (Some (IrqClosed conn)) h.0.none h.1 refl
channel-tells g conn (Some c) group output after h = tells group _ output _ h.events h.told (given-tells conn c.number h.given)

-- a command
makes-tells : (s : Stage) (command : Command) (group : List Event) (output : Option Output) (after : Gateway) → Makes s command group output after → Tells group output
makes-tells s (Up conn r) group output after h = tells group (event.Up conn r ∷ []) output None h.0 h.2 refl
makes-tells s (In conn bytes) group output after h = piece-tells s.gateway conn s.moment (brought (s.streams conn) bytes) group output after h
makes-tells s (Down conn) group output after h = tells group (event.Down conn ∷ []) output (Some (GoneDown conn)) h.events h.told refl
makes-tells s (At moment) group output after h = tells group [] output None h.0.none h.1 refl
makes-tells s (Poll conn) group output after h = poll-tells s.gateway after conn s.moment (s.xids conn) group output h
makes-tells s Sample group output after h = tells group (event.Sample s.moment _ ∷ []) output None h.events h.told refl
makes-tells s (Take conn) group output after h = channel-tells s.gateway conn (channel_at (tables_of s).srq_state conn) group output after h
makes-tells s (Dial conn up) group output after h = tells group (event.Answer conn s.moment false (Some up) false (reply.Error h.error) ∷ []) output
    (Some (Out conn (reply_record (s.xids conn) (reply.Error h.error)))) h.events h.told refl
makes-tells s (Inst p secondary text) group output after h = tells group [] output None h.none h.told refl
makes-tells s (Plug p secondary name) group output after h = tells group [] output None h.none h.told refl
makes-tells s (Pull p secondary) group output after h = tells group [] output None h.none h.told refl
makes-tells s (Set p secondary b) group output after h = tells group [] output None h.none h.told refl
makes-tells s (Fail n) group output after h = tells group [] output None h.none h.told refl

-- ---- the lines of the bus are none of these

bus-none : (p : Output → Bool) → ((conn : ℕ) (moves : List Transfer) → p (Bus conn moves) ≡ false) → (group : List Event) → count_by p (flat_map bus_lines group) ≡ 0
bus-none p never [] = refl
bus-none p never (event.Move conn moves ∷ group) =
    let both : count_by p (flat_map bus_lines (event.Move conn moves ∷ group)) ≡ count_by p (Bus conn moves ∷ []) + count_by p (flat_map bus_lines group) =
    sum_by-append (λ x. cond (p x) 1 0) (Bus conn moves ∷ []) (flat_map bus_lines group) in
    let one : count_by p (Bus conn moves ∷ []) ≡ 0 = ap (λ b. 0 + cond b 1 0) (never conn moves) in
    let rest : count_by p (flat_map bus_lines group) ≡ 0 = bus-none p never group in
    omega arith
bus-none p never (e ∷ group) = bus-none p never group

-- so of an item's lines its note alone is counted
note-counted : (p : Output → Bool) → ((conn : ℕ) (moves : List Transfer) → p (Bus conn moves) ≡ false) → (item : Item) → count_by p (item_lines item) ≡ count_by p (noted item.note)
note-counted p never item =
    let both : count_by p (item_lines item) ≡ count_by p (flat_map bus_lines item.group) + count_by p (noted item.note) =
    sum_by-append (λ x. cond (p x) 1 0) (flat_map bus_lines item.group) (noted item.note) in
    let front : count_by p (flat_map bus_lines item.group) ≡ 0 = bus-none p never item.group in
    omega arith

-- ---- one more step

-- the events of one more step
events-more : {A : Type 0} (f : Event → List A) (items : List Item) (item : Item)
    → flat_map f (events (items ++ item ∷ [])) ≡ flat_map f (events items) ++ flat_map f item.group
events-more f items item =
    ap (flat_map f) (flat_map-append (λ i. i.group) items (item ∷ []) ∙ ap (λ g. events items ++ g) (append-nil item.group))
    ∙ flat_map-append f (events items) item.group

count_more : {A : Type 0} (p : A → Bool) (all front back : List A) → all ≡ front ++ back → count_by p all ≡ count_by p front + count_by p back
count_more p all front back is = ap (count_by p) is ∙ sum_by-append (λ x. cond (p x) 1 0) front back

length_more : {A : Type 0} (all front back : List A) → all ≡ front ++ back → length all ≡ length front + length back
length_more all front back is = ap length is ∙ length-append front back

-- counts whose parts are the same
abbrev pub counts_with : ℕ → ℕ → ℕ → ℕ → ℕ → Counts
counts_with a e t i w = record { answers = a; errors = e; transfers = t; interrupts = i; waits = w }

pub same-counts : (a e t i w a2 e2 t2 i2 w2 : ℕ) → a ≡ a2 → e ≡ e2 → t ≡ t2 → i ≡ i2 → w ≡ w2 → counts_with a e t i w ≡ counts_with a2 e2 t2 i2 w2
same-counts a e t i w a2 e2 t2 i2 w2 ha he ht hi hw =
    ap (λ n. counts_with n e t i w) ha ∙ ap (λ n. counts_with a2 n t i w) he ∙ ap (λ n. counts_with a2 e2 n i w) ht
    ∙ ap (λ n. counts_with a2 e2 t2 n w) hi ∙ ap (λ n. counts_with a2 e2 t2 i2 n) hw

-- the counts with a step that was taken
pub counts-more : (before after : Stage) (items : List Item) (item : Item) (lines : List Output) (answered : Option ErrorCode) → PlayerTakes before item after
    → item_lines item ≡ lines → flat_map answer_errors item.group ≡ errors_of answered
    → counts_of (items ++ item ∷ []) ≡ counts_behind (counts_of items) answered lines
counts-more before after items item lines answered takes lines_are answered_is =
    let errors_are : errors (items ++ item ∷ []) ≡ errors items ++ errors_of answered =
    events-more answer_errors items item ∙ ap (λ es. errors items ++ es) answered_is in
    let makes = takes.makes in
    same-counts _ _ _ _ _ _ _ _ _ _
    (length_more _ (errors items) (errors_of answered) errors_are)
    (count_more is_failure _ (errors items) (errors_of answered) errors_are)
    (length_more _ (flat_map moved (events items)) (flat_map moved item.group) (events-more moved items item)
    ∙ ap (λ ms. length (flat_map moved (events items)) + length ms)
    (sym (item-shown item (makes-plain before item.command item.group item.note after.gateway makes)) ∙ ap (flat_map shown_moves) lines_are))
    (length_more _ (flat_map interrupts (events items)) (flat_map interrupts item.group) (events-more interrupts items item)
    ∙ ap (λ n. length (flat_map interrupts (events items)) + n)
    (makes-tells before item.command item.group item.note after.gateway makes ∙ sym (note-counted is_interrupt (λ conn moves. refl) item) ∙ ap (count_by is_interrupt) lines_are))
    (count_more is_wait _ (notes items) (noted item.note)
    (flat_map-append (λ i. noted i.note) items (item ∷ []) ∙ ap (λ ns. notes items ++ ns) (append-nil (noted item.note)))
    ∙ ap (λ n. count_by is_wait (notes items) + n) (sym (note-counted is_wait (λ conn moves. refl) item) ∙ ap (count_by is_wait) lines_are))
