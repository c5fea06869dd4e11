-- Steps of a run, taken and counted one after the other.
use Rattle.std.proofs.Common.{◌≡◌, ◌≤◌, ℕ, ◌+◌, ◌*◌, Bool, true, false, cond, List, [], ◌∷◌, ◌++◌, length, Option, Some, None, refl, sym, ap, ◌∙◌, subst, inl, inr, arith, append-nil, length-append}
use Rattle.std.specs.Prelude.{count_by, is_some}
use Rattle.std.specs.List.{flat_map, slice_get}
use Rattle.std.specs.Int.{from_bool}
use Rattle.std.proofs.lemmas.Grind.{flat_map-append}
use Rattle.std.proofs.lemmas.List.Sums.{sum_by-append}
use Rattle.vx_calls.specs.declared.codes.ErrorCode.{ErrorCode}
use Rattle.vx_488.specs.declared.transfers.Transfer.{Transfer}
use Rattle.vx_calls.specs.declared.limits.TheConstants.{SLICE_MAX}
use Rattle.vx_script.specs.Command.{Command, At}
use Rattle.std.specs.Prelude.{◌^◌, suc, Result, Ok, Err, IfErr}
use Rattle.vx_trace.specs.Output.{Output, Bus}
use Rattle.vx_rules.specs.State.{pending_at}
use Rattle.vx_setup.specs.Rack.{SpareShown}
use Rattle.vx_setup.specs.Script.{Step}
use Rattle.vx_gen.specs.declared.steps.TheConstants.{HEAD_STEPS}
use Rattle.vx_gen.specs.declared.telling.Counts.{Counts}
use Rattle.vx_gen.specs.Drawing.{next, draw, connection}
use Rattle.vx_gen.specs.Generating.{head, drawn}
use Rattle.vx_player.specs.declared.made_run.Halt.{Halt}
use Rattle.vx_player.specs.declared.note.StepMade.{StepMade}
use Rattle.vx_player.specs.declared.note.Note.{Note}
use Rattle.vx_player.specs.declared.note.Note.TheVariants as note
use Rattle.vx_player.specs.Gateway.{Gateway}
use Rattle.vx_run.specs.Item.{Item, noted, errors_of, shown_moves}
use Rattle.vx_player.specs.Stage.{Stage, beginning}
use Rattle.vx_player.specs.Play.{PlayerTakes, Plays}
use Rattle.vx_player.specs.PlayerState.{PlayerState}
use Rattle.vx_player.specs.Standing.{PlayerStands, TakesTo, note_line, moves_lines, made_lines}
use Rattle.vx_player.specs.Wanting.{StopsFor}
use Rattle.vx_run.specs.Notes.{is_wait}
use Rattle.vx_player.specs.Generated.{is_failure, has_call, IsGenerated, AreGenerated, IsDriven}
use Rattle.vx_player.specs.Counting.{no_counts, is_interrupt, has_error, tells_interrupt, tells_wait, counts_made, counts_behind, IsPlayerWithin, TakesCounted, Running, HaltsIn}
use Rattle.vx_player.specs.declared.note.Gone.TheVariants as gone
use Rattle.vx_player.proofs.Shown.{waits}
use Rattle.vx_player.proofs.Counted.{counts-more, same-counts}

-- ---- what the code counts of a step is what its lines tell

one-answer : (answered : Option ErrorCode) → from_bool (is_some answered) ≡ length (errors_of answered)
one-answer None = refl
one-answer (Some error) = refl

one-error : (answered : Option ErrorCode) → from_bool (has_error answered) ≡ count_by is_failure (errors_of answered)
one-error None = refl
one-error (Some error) = by (is_failure error) where
  by : (b : Bool) → from_bool b ≡ 0 + cond b 1 0
  by true = refl
  by false = refl

-- a note shows no transfers, and is an interrupt or a wait where it tells one
note-moves : (room : List ℕ) (n : Note) → flat_map shown_moves (noted (note_line room n)) ≡ []
note-moves room (note.Waiting conn why) = ap (λ moves. moves ++ []) (waits conn why).moves
note-moves room (note.Ended conn gone.Down) = refl
note-moves room (note.Ended conn _) = refl
note-moves room _ = refl

note-interrupts : (room : List ℕ) (n : Note) → from_bool (tells_interrupt n) ≡ count_by is_interrupt (noted (note_line room n))
note-interrupts room (note.Waiting conn why) = sym (ap (λ b. 0 + cond b 1 0) (waits conn why).no_interrupt)
note-interrupts room (note.Ended conn gone.Down) = refl
note-interrupts room (note.Ended conn _) = refl
note-interrupts room _ = refl

note-waits : (room : List ℕ) (n : Note) → from_bool (tells_wait n) ≡ count_by is_wait (noted (note_line room n))
note-waits room (note.Waiting conn why) = sym (ap (λ b. 0 + cond b 1 0) (waits conn why).wait)
note-waits room (note.Ended conn gone.Down) = refl
note-waits room (note.Ended conn _) = refl
note-waits room _ = refl

-- the line of a poll's transfers shows them, and is neither
lines-moves : (polled : Option ℕ) (moves : List Transfer) → length (flat_map shown_moves (moves_lines polled moves)) ≡ cond (is_some polled) (length moves) 0
lines-moves None moves = refl
lines-moves (Some conn) [] = refl
lines-moves (Some conn) (t ∷ ts) = ap length (append-nil (t ∷ ts))

lines-none : (p : Output → Bool) → ((conn : ℕ) (moves : List Transfer) → p (Bus conn moves) ≡ false) → (polled : Option ℕ) (moves : List Transfer)
    → count_by p (moves_lines polled moves) ≡ 0
lines-none p never None moves = refl
lines-none p never (Some conn) [] = refl
lines-none p never (Some conn) (t ∷ ts) = ap (λ b. 0 + cond b 1 0) (never conn (t ∷ ts))

lines-count : (p : Output → Bool) → ((conn : ℕ) (moves : List Transfer) → p (Bus conn moves) ≡ false) → (player : PlayerState) (made : StepMade)
    → count_by p (made_lines player made) ≡ count_by p (noted (note_line player.reply made.note))
lines-count p never player made =
    let front = moves_lines made.polled player.core.bus.means.moves in
    let back = noted (note_line player.reply made.note) in
    let both : count_by p (made_lines player made) ≡ count_by p front + count_by p back = sum_by-append (λ x. cond (p x) 1 0) front back in
    let none : count_by p front ≡ 0 = lines-none p never made.polled player.core.bus.means.moves in
    omega arith

lines-shown-moves : (player : PlayerState) (made : StepMade)
    → cond (is_some made.polled) (length player.core.bus.means.moves) 0 ≡ length (flat_map shown_moves (made_lines player made))
lines-shown-moves player made =
    let front = moves_lines made.polled player.core.bus.means.moves in
    let back = noted (note_line player.reply made.note) in
    sym (ap length (flat_map-append shown_moves front back ∙ ap (λ xs. flat_map shown_moves front ++ xs) (note-moves player.reply made.note) ∙ append-nil (flat_map shown_moves front))
    ∙ lines-moves made.polled player.core.bus.means.moves)

made-counts : (player : PlayerState) (made : StepMade) (c : Counts)
    → counts_made c made (length player.core.bus.means.moves) ≡ counts_behind c made.answered (made_lines player made)
made-counts player made c =
    same-counts _ _ _ _ _ _ _ _ _ _
    (ap (λ n. c.answers + n) (one-answer made.answered))
    (ap (λ n. c.errors + n) (one-error made.answered))
    (ap (λ n. c.transfers + n) (lines-shown-moves player made))
    (ap (λ n. c.interrupts + n) (note-interrupts player.reply made.note ∙ sym (lines-count is_interrupt (λ conn moves. refl) player made)))
    (ap (λ n. c.waits + n) (note-waits player.reply made.note ∙ sym (lines-count is_wait (λ conn moves. refl) player made)))

-- a step that was taken, and counted so
pub taken-counted : (stage : Stage) (command : Command) (old new : Counts) (player : PlayerState) (made : StepMade) (moves : List Transfer)
    → TakesTo stage command made player → new ≡ counts_made old made (length moves) → moves ≡ player.core.bus.means.moves
    → TakesCounted stage command old player new
taken-counted stage command old new player made moves takes counted moves_are = record {
  made = made;
  takes = takes;
  counted = counted ∙ ap (λ ms. counts_made old made (length ms)) moves_are ∙ made-counts player made old;
}

-- ---- one more step

-- one more step of a play
abbrev pub plays_more : (before mid after : Stage) (steps : List Step) (items : List Item) (step : Step) (item : Item) → Plays before steps items mid → item.command ≡ step.command
    → PlayerTakes mid item after → Plays before (steps ++ step ∷ []) (items ++ item ∷ []) after
plays_more before mid after [] [] step item played same takes = (same, after, subst (λ s. PlayerTakes s item after) played takes, refl)
plays_more before mid after [] (i ∷ items) step item played same takes = absurd played
plays_more before mid after (s ∷ steps) [] step item played same takes = absurd played
plays_more before mid after (s ∷ steps) (i ∷ items) step item (first, next, took, rest) same takes =
    (first, next, took, plays_more next mid after steps items step item rest same takes)

-- the place of the next step is as far as the steps go
generated-more : (seed place n : ℕ) (before mid after : Stage) (steps : List Step) (items : List Item) (step : Step) (item : Item) (played : Plays before steps items mid)
    → AreGenerated seed place before steps items mid played → (same : item.command ≡ step.command) → (takes : PlayerTakes mid item after)
    → n ≡ place + length steps → step.line ≡ n + 1 → IsGenerated seed n mid step.command
    → AreGenerated seed place before (steps ++ step ∷ []) (items ++ item ∷ []) after (plays_more before mid after steps items step item played same takes)
generated-more seed place n before mid after [] [] step item played made same takes count line is =
    let at : n ≡ place = omega arith in
    (line ∙ ap (λ m. m + 1) at, subst (λ m. IsGenerated seed m before step.command) at (subst (λ s. IsGenerated seed n s step.command) played is), tt)
generated-more seed place n before mid after [] (i ∷ items) step item played made same takes count line is = absurd played
generated-more seed place n before mid after (s ∷ steps) [] step item played made same takes count line is = absurd played
generated-more seed place n before mid after (s ∷ steps) (i ∷ items) step item (first, next, took, rest) (numbered, made, more) same takes count line is =
    (numbered, made, generated-more seed (place + 1) n next mid after steps items step item rest more same takes (omega arith) line is)

driven-more : (seed : ℕ) (rack : List SpareShown) (count : ℕ) (items : List Item) (mid after : Stage) (item : Item) → (d : IsDriven seed rack count items mid)
    → IsGenerated seed count mid item.command → PlayerTakes mid item after → IsDriven seed rack (count + 1) (items ++ item ∷ []) after
driven-more seed rack count items mid after item d is takes =
    let step : Step = record { line = count + 1; command = item.command } in
    let number = d.number in
    let len = length-append d.steps (step ∷ []) in
    record {
      steps = d.steps ++ step ∷ [];
      driven = plays_more (beginning rack) mid after d.steps items step item d.driven refl takes;
      generated = generated-more seed 0 count (beginning rack) mid after d.steps items step item d.driven d.generated refl takes (omega arith) refl is;
      number = omega arith;
    }

-- a run begins
pub run-begins : (seed : ℕ) (rack : List SpareShown) (player : PlayerState) (counts : Counts) → PlayerStands player (beginning rack) → counts ≡ no_counts
    → Running seed rack 0 player counts
run-begins seed rack player counts stands none = record {
  items = [];
  stage = beginning rack;
  front = record { steps = []; driven = refl; generated = tt; number = refl };
  stands = stands;
  counted = none;
  few = subst (IsPlayerWithin 0) (sym none) (record { answers = omega arith; errors = omega arith; transfers = omega arith; interrupts = omega arith; waits = omega arith });
}

-- a bound that is another
within-same : (n m : ℕ) (c : Counts) → n ≡ m → IsPlayerWithin n c → IsPlayerWithin m c
within-same n m c same h = subst (λ k. IsPlayerWithin k c) same h

-- a larger bound
pub within-more : (n m : ℕ) (c : Counts) → n ≤ m → IsPlayerWithin n c → IsPlayerWithin m c
within-more n m c more h =
    let a = h.answers in
    let e = h.errors in
    let t = h.transfers in
    let i = h.interrupts in
    let w = h.waits in
    record { answers = omega arith; errors = omega arith; transfers = omega arith; interrupts = omega arith; waits = omega arith }

-- the counts of a run are small
pub run-small : (seed : ℕ) (rack : List SpareShown) (count : ℕ) (player : PlayerState) (counts : Counts) → Running seed rack count player counts → count ≤ 4000000
    → IsPlayerWithin (2 ^ 62) counts
run-small seed rack count player counts r few = within-more (count * SLICE_MAX) (2 ^ 62) counts (omega arith) r.few

-- a run goes on
pub run-goes-on : (seed : ℕ) (rack : List SpareShown) (count : ℕ) (player next : PlayerState) (counts more : Counts) (command : Command)
    → (r : Running seed rack count player counts) → IsGenerated seed count r.stage command → TakesCounted r.stage command counts next more
    → ((most : ℕ) → IsPlayerWithin most counts → IsPlayerWithin (most + SLICE_MAX) more) → Running seed rack (count + 1) next more
run-goes-on seed rack count player next counts more command r is t grown = record {
  items = r.items ++ t.takes.item ∷ [];
  stage = t.takes.after;
  front = driven-more seed rack count r.items r.stage t.takes.after t.takes.item r.front
      (subst (IsGenerated seed count r.stage) (sym t.takes.command_is) is) t.takes.takes;
  stands = t.takes.stands;
  counted = t.counted ∙ ap (λ c. counts_behind c t.made.answered (made_lines next t.made)) r.counted
      ∙ sym (counts-more r.stage t.takes.after r.items t.takes.item (made_lines next t.made) t.made.answered t.takes.takes t.takes.lines_are t.takes.answered_is);
  few = within-same (count * SLICE_MAX + SLICE_MAX) ((count + 1) * SLICE_MAX) more (omega arith) (grown (count * SLICE_MAX) r.few);
}

-- a run stops
pub run-halts : (seed : ℕ) (rack : List SpareShown) (count : ℕ) (player : PlayerState) (counts : Counts) (command : Command) (halt : Halt)
    → (r : Running seed rack count player counts) → IsGenerated seed count r.stage command → StopsFor r.stage command halt.stop → halt.number ≡ count + 1
    → HaltsIn seed rack halt
run-halts seed rack count player counts command halt r is stops number = record {
  place = count;
  items = r.items;
  stage = r.stage;
  front = r.front;
  command = command;
  next = is;
  stops = stops;
  number = number;
}

-- ---- which step is next

-- in the head
pub head-next : (seed place : ℕ) (s : Stage) (command : Command) → slice_get head place ≡ Some command → IsGenerated seed place s command
head-next seed place s command is = inl is

-- a moment
pub moment-next : (seed k place : ℕ) (s : Stage) → place ≡ HEAD_STEPS + 2 * k → IsGenerated seed place s (At (k + 1))
moment-next seed k place s at = inr (inl (k, at, refl))

-- a drawn step
pub drawn-next : (seed k place x : ℕ) (is_pending : Bool) (player : PlayerState) (s : Stage) (command : Command) → place ≡ HEAD_STEPS + 2 * k + 1 → PlayerStands player s
    → x ≡ draw seed (k + 1) → is_pending ≡ is_some (pending_at player.core.interleaved.state.tables (connection x)) → command ≡ drawn (k + 1) x is_pending
    → IsGenerated seed place s command
drawn-next seed k place x is_pending player s command at stands x_is pending_is command_is =
    let here : is_pending ≡ has_call s (connection x) = pending_is ∙ ap (λ (g : Gateway). is_some (pending_at g.interleaved.state.tables (connection x))) stands.gateway in
    let says : command ≡ drawn (k + 1) x (has_call s (connection x)) = command_is ∙ ap (drawn (k + 1) x) here in
    inr (inr (k, at, says ∙ ap (λ y. drawn (k + 1) y (has_call s (connection y))) x_is))

-- a run that went to another place
pub run_at : (seed n m : ℕ) (rack : List SpareShown) (player : PlayerState) (counts : Counts) → n ≡ m → Running seed rack n player counts → Running seed rack m player counts
run_at seed n m rack player counts same r = subst (λ k. Running seed rack k player counts) same r

-- a moment was taken, or wasn't
pub moment-goes-on : (seed k moment : ℕ) (rack : List SpareShown) (player next : PlayerState) (counts more : Counts) → moment ≡ k + 1 → Running seed rack (HEAD_STEPS + 2 * k) player counts
    → ((stage : Stage) → PlayerStands player stage → TakesCounted stage (At moment) counts next more) → ((most : ℕ) → IsPlayerWithin most counts → IsPlayerWithin (most + SLICE_MAX) more)
    → Running seed rack (HEAD_STEPS + 2 * k + 1) next more
moment-goes-on seed k moment rack player next counts more is r takes grown =
    run-goes-on seed rack (HEAD_STEPS + 2 * k) player next counts more (At moment) r
    (subst (λ m. IsGenerated seed (HEAD_STEPS + 2 * k) r.stage (At m)) (sym is) (moment-next seed k (HEAD_STEPS + 2 * k) r.stage refl)) (takes r.stage r.stands) grown

pub moment-halts : (seed k moment : ℕ) (rack : List SpareShown) (player : PlayerState) (counts : Counts) (halt : Halt) → moment ≡ k + 1 → Running seed rack (HEAD_STEPS + 2 * k) player counts
    → ((stage : Stage) → PlayerStands player stage → StopsFor stage (At moment) halt.stop) → halt.number ≡ HEAD_STEPS + 2 * k + 1 → HaltsIn seed rack halt
moment-halts seed k moment rack player counts halt is r stops number =
    run-halts seed rack (HEAD_STEPS + 2 * k) player counts (At moment) halt r
    (subst (λ m. IsGenerated seed (HEAD_STEPS + 2 * k) r.stage (At m)) (sym is) (moment-next seed k (HEAD_STEPS + 2 * k) r.stage refl)) (stops r.stage r.stands) number

-- a drawn step was taken, or wasn't
pub drawn-goes-on : (seed k x : ℕ) (is_pending : Bool) (command : Command) (rack : List SpareShown) (player next : PlayerState) (counts more : Counts) → x ≡ draw seed (k + 1)
    → is_pending ≡ is_some (pending_at player.core.interleaved.state.tables (connection x)) → command ≡ drawn (k + 1) x is_pending → Running seed rack (HEAD_STEPS + 2 * k + 1) player counts
    → ((stage : Stage) → PlayerStands player stage → TakesCounted stage command counts next more) → ((most : ℕ) → IsPlayerWithin most counts → IsPlayerWithin (most + SLICE_MAX) more)
    → Running seed rack (HEAD_STEPS + 2 * (k + 1)) next more
drawn-goes-on seed k x is_pending command rack player next counts more x_is pending_is command_is r takes grown =
    run_at seed (HEAD_STEPS + 2 * k + 1 + 1) (HEAD_STEPS + 2 * (k + 1)) rack next more (omega arith)
    (run-goes-on seed rack (HEAD_STEPS + 2 * k + 1) player next counts more command r
    (drawn-next seed k (HEAD_STEPS + 2 * k + 1) x is_pending player r.stage command refl r.stands x_is pending_is command_is) (takes r.stage r.stands) grown)

pub drawn-halts : (seed k x : ℕ) (is_pending : Bool) (command : Command) (rack : List SpareShown) (player : PlayerState) (counts : Counts) (halt : Halt) → x ≡ draw seed (k + 1)
    → is_pending ≡ is_some (pending_at player.core.interleaved.state.tables (connection x)) → command ≡ drawn (k + 1) x is_pending → Running seed rack (HEAD_STEPS + 2 * k + 1) player counts
    → ((stage : Stage) → PlayerStands player stage → StopsFor stage command halt.stop) → halt.number ≡ HEAD_STEPS + 2 * k + 1 + 1 → HaltsIn seed rack halt
drawn-halts seed k x is_pending command rack player counts halt x_is pending_is command_is r stops number =
    run-halts seed rack (HEAD_STEPS + 2 * k + 1) player counts command halt r
    (drawn-next seed k (HEAD_STEPS + 2 * k + 1) x is_pending player r.stage command refl r.stands x_is pending_is command_is) (stops r.stage r.stands) number

-- the next draw
pub draw-more : (seed k x : ℕ) → x ≡ next (draw seed k) → x ≡ draw seed (k + 1)
draw-more seed k x is =
    let at : suc k ≡ k + 1 = omega arith in
    let here : next (draw seed k) ≡ draw seed (k + 1) = ap (draw seed) at in
    is ∙ here

-- what is said of a fault says another thing of it
pub fault-says : {A E : Type 0} (found : Result A E) (This That : E → Type 0) → ((e : E) → This e → That e) → IfErr found This → IfErr found That
fault-says (Ok value) This That more h = h
fault-says (Err e) This That more h = more e h
