-- The lines of a poll, and of each step of a run.
use Rattle.std.proofs.Common.{◌≡◌, ℕ, ◌<◌, ◌≤◌, Bool, true, false, cond, List, [], ◌∷◌, ◌++◌, length, filter, flat_map, Option, Some, None, is_some, refl, sym, ap, ◌∙◌, subst, arith, append_assoc}
use Rattle.std.proofs.lemmas.Option.{none-some, same_Some}
use Rattle.std.proofs.lemmas.List.Concat.{flat_map-append}
use Rattle.std.proofs.lemmas.List.Elements.{filter-append}
use Rattle.vx_488.specs.declared.transfers.Transfer.{Transfer}
use Rattle.vx_trace.specs.Output.{Output}
use Rattle.vx_trace.specs.Text.{HasRanges}
use Rattle.vx_rules.specs.Lists.{along}
use Rattle.vx_rules.proofs.Laws.Lists.{along-none, along-append}
use Rattle.vx_rules.specs.State.{pending_at}
use Rattle.vx_flow.specs.Event.{Event, Answer, Begin, Move, Dial}
use Rattle.vx_flow.specs.InterleavedState.{InterleavedState}
use Rattle.vx_flow.specs.InterleavedStep.{interleaved_step}
use Rattle.vx_flow.specs.Poll.{Ending, Answered, Waited, Dialed, begins, moved_events, end_events, is_broken, at_moment}
use Rattle.vx_flow.specs.declared.progress.Why.{Why}
use Rattle.vx_flow.specs.declared.progress.Why.TheVariants as why
use Rattle.vx_flow.proofs.Laws.{interleaved-frame}
use Rattle.vx_run.specs.Item.{noted}
use Rattle.vx_run.specs.RunText.{event_lines}
use Rattle.vx_run.specs.Notes.{poll_line, wait_line}
use Rattle.vx_run.specs.Giving.{PollGives}
use Rattle.vx_history.specs.CheckState.{Kept, Free}
use Rattle.vx_history.specs.Saying.{Quiet, free_says}
use Rattle.vx_history.specs.Laws.{ReplyLaw}
use Rattle.vx_history.specs.Formed.{is_told}
use Rattle.vx_history.proofs.FormedReads.{Each}
use Rattle.vx_history.proofs.FormedStands.{here, IsOwn, StandsFor, Led, led-append, led-none}
use Rattle.vx_history.proofs.FormedLines.{quiet-led, quiet-so, out-led, begin-led, move-led, wait_dial-led, led-same, stands-later}

-- the lines of events, and those of them that a trace tells
abbrev pub lines_of : List Event → List Output
lines_of es = flat_map event_lines es

abbrev pub told_of : List Event → List Event
told_of es = filter is_told es

-- a walk along two lists of events, one behind the other
pub split-along : (f g : InterleavedState) (xs ys : List Event) → along interleaved_step (Some f) (xs ++ ys) ≡ Some g
    → (mid : InterleavedState) × (along interleaved_step (Some f) xs ≡ Some mid) × (along interleaved_step (Some mid) ys ≡ Some g)
split-along f g xs ys h = by (along interleaved_step (Some f) xs) refl (sym (along-append interleaved_step (Some f) xs ys) ∙ h) where
  by : (o : Option InterleavedState) → along interleaved_step (Some f) xs ≡ o → along interleaved_step o ys ≡ Some g
      → (mid : InterleavedState) × (along interleaved_step (Some f) xs ≡ Some mid) × (along interleaved_step (Some mid) ys ≡ Some g)
  by None e k = absurd (none-some g (sym (along-none interleaved_step ys) ∙ k))
  by (Some mid) e k = (mid, e, k)

-- what holds of each of two lists
pub split-all : {X : Type 0} (P : X → Type 0) (xs ys : List X) → Each P (xs ++ ys) → Each P xs × Each P ys
split-all P [] ys h = (tt, h)
split-all P (x ∷ xs) ys h = let rest = split-all P xs ys h.1 in ((h.0, rest.0), rest.1)

-- what holds of a list, and of two behind it
pub split-front : {X : Type 0} (P : X → Type 0) (front xs ys : List X) → Each P ((front ++ xs) ++ ys) → Each P front × Each P (xs ++ ys)
split-front P front xs ys h = split-all P front (xs ++ ys) (subst (Each P) (append_assoc front xs ys) h)

-- moments and counts
same-late : (a b c : ℕ) → a ≡ b → b ≤ c → a ≤ c
same-late a b c is late = omega arith

same-now : (a b : ℕ) → a ≡ b → a ≤ b
same-now a b is = omega arith

some-more : (t : Transfer) (ts : List Transfer) → 0 < length (t ∷ ts)
some-more t ts = omega arith

-- a part of a poll: its lines, and what it leaves
record Part (f : InterleavedState) (k : ℕ) (kept : List Kept) (m now : ℕ) (xids : ℕ → ℕ) (lines : List Output) (es : List Event) (g : InterleavedState) : Type 0 where
  led : Led f k kept m now xids lines es g
  same : g.state.tables ≡ f.state.tables
  late : g.state.moment ≤ now

-- nothing happens
nothing-part : (f g : InterleavedState) (k : ℕ) (kept : List Kept) (m now : ℕ) (xids : ℕ → ℕ) → StandsFor f xids now k kept m → f.state.moment ≤ now → f ≡ g
    → Part f k kept m now xids [] [] g
nothing-part f g k kept m now xids st late same =
    subst (Part f k kept m now xids [] []) same (record { led = led-none f k kept m now xids st; same = refl; late = late })

-- the turn begins, where it does
begun-part : (f g : InterleavedState) (k : ℕ) (kept : List Kept) (m now : ℕ) (xids : ℕ → ℕ) (conn : ℕ) (b : Bool) → StandsFor f xids now k kept m → f.state.moment ≤ now
    → along interleaved_step (Some f) (cond b (Begin conn now ∷ []) []) ≡ Some g
    → Part f k kept m now xids (lines_of (cond b (Begin conn now ∷ []) [])) (told_of (cond b (Begin conn now ∷ []) [])) g
begun-part f g k kept m now xids conn true st late h =
    let frame = interleaved-frame f g (Begin conn now) h in
    record { led = begin-led f g k kept m now xids conn st h; same = frame.tables; late = same-now g.state.moment now frame.moment_is }
begun-part f g k kept m now xids conn false st late h = nothing-part f g k kept m now xids st late (same_Some f g h)

-- it makes transfers, where it makes any
moved-part : (f g : InterleavedState) (k : ℕ) (kept : List Kept) (m now : ℕ) (xids : ℕ → ℕ) (conn : ℕ) (moves : List Transfer) → StandsFor f xids now k kept m
    → f.state.moment ≤ now → along interleaved_step (Some f) (moved_events conn moves) ≡ Some g → Each HasRanges (lines_of (moved_events conn moves))
    → Part f k kept m now xids (lines_of (moved_events conn moves)) (told_of (moved_events conn moves)) g
moved-part f g k kept m now xids conn [] st late h ranges = nothing-part f g k kept m now xids st late (same_Some f g h)
moved-part f g k kept m now xids conn (t ∷ ts) st late h ranges =
    let frame = interleaved-frame f g (Move conn (t ∷ ts)) h in
    record {
      led = move-led f g k kept m now xids conn (t ∷ ts) st h (some-more t ts) ranges.0.1;
      same = frame.tables;
      late = same-late g.state.moment f.state.moment now frame.moment_is late;
    }

wait-own : (conn : ℕ) (w : Why) → IsOwn (wait_line conn w)
wait-own conn (why.Locked link) = record { whole = tt; is_timed = refl }
wait-own conn (why.Behind by) = record { whole = tt; is_timed = refl }
wait-own conn (why.Turn by) = record { whole = tt; is_timed = refl }
wait-own conn why.Held = record { whole = tt; is_timed = refl }
wait-own conn why.Slice = record { whole = tt; is_timed = refl }

wait-says : (f : InterleavedState) (k : ℕ) (kept : List Kept) (now conn : ℕ) (w : Why) → is_some (pending_at f.state.tables conn) ≡ true
    → free_says (here f k kept now Free) (wait_line conn w) ≡ Quiet Free
wait-says f k kept now conn (why.Locked link) has = quiet-so (is_some (pending_at f.state.tables conn)) has
wait-says f k kept now conn (why.Behind by) has = quiet-so (is_some (pending_at f.state.tables conn)) has
wait-says f k kept now conn (why.Turn by) has = quiet-so (is_some (pending_at f.state.tables conn)) has
wait-says f k kept now conn why.Held has = quiet-so (is_some (pending_at f.state.tables conn)) has
wait-says f k kept now conn why.Slice has = quiet-so (is_some (pending_at f.state.tables conn)) has

-- the end of a poll
record EndPart (f : InterleavedState) (k : ℕ) (kept : List Kept) (m now : ℕ) (xids : ℕ → ℕ) (lines : List Output) (es : List Event) (g : InterleavedState) : Type 0 where
  led : Led f k kept m now xids lines es g
  late : g.state.moment ≤ now

end-part : ReplyLaw → (f g : InterleavedState) (k : ℕ) (kept : List Kept) (m now : ℕ) (xids : ℕ → ℕ) (conn : ℕ) (ending : Ending) → StandsFor f xids now k kept m
    → f.state.moment ≤ now → is_some (pending_at f.state.tables conn) ≡ true → along interleaved_step (Some f) (end_events conn now ending) ≡ Some g
    → EndPart f k kept m now xids (lines_of (end_events conn now ending) ++ poll_line conn (xids conn) ending ∷ []) (told_of (end_events conn now ending)) g
end-part law f g k kept m now xids conn (Answered ran level r) st late has h =
    record {
      led = out-led law f g k kept m now xids conn (is_broken ran) level r st h;
      late = same-now g.state.moment now (interleaved-frame f g (Answer conn now (is_broken ran) None level r) h).moment_is;
    }
end-part law f g k kept m now xids conn (Waited w) st late has h =
    subst (EndPart f k kept m now xids (wait_line conn w ∷ []) []) (same_Some f g h)
    (record { led = quiet-led f k kept m now xids (wait_line conn w) st (wait-own conn w) (wait-says f k kept now conn w has); late = late })
end-part law f g k kept m now xids conn (Dialed host port) st late has h =
    record { led = wait_dial-led f g k kept m now xids conn st h; late = same-now g.state.moment now (interleaved-frame f g (Dial conn now) h).moment_is }

-- three lists of events and a line behind them, put together
lines-joined : (b mv e : List Event) (l : Output) → lines_of b ++ (lines_of mv ++ (lines_of e ++ l ∷ [])) ≡ lines_of ((b ++ mv) ++ e) ++ l ∷ []
lines-joined b mv e l =
    ap (λ ls. lines_of b ++ ls) (sym (append_assoc (lines_of mv) (lines_of e) (l ∷ [])))
    ∙ sym (append_assoc (lines_of b) (lines_of mv ++ lines_of e) (l ∷ []))
    ∙ ap (λ ls. ls ++ l ∷ []) (sym (append_assoc (lines_of b) (lines_of mv) (lines_of e)))
    ∙ ap (λ ls. (ls ++ lines_of e) ++ l ∷ []) (sym (flat_map-append event_lines b mv))
    ∙ ap (λ ls. ls ++ l ∷ []) (sym (flat_map-append event_lines (b ++ mv) e))

told-joined : (b mv e : List Event) → told_of b ++ (told_of mv ++ told_of e) ≡ told_of ((b ++ mv) ++ e)
told-joined b mv e =
    sym (append_assoc (told_of b) (told_of mv) (told_of e)) ∙ ap (λ es. es ++ told_of e) (sym (filter-append is_told b mv)) ∙ sym (filter-append is_told (b ++ mv) e)

-- what holds of the lines of all three holds of those of the second
middle-each : (b mv e : List Event) (more : List Output) → Each HasRanges (lines_of ((b ++ mv) ++ e) ++ more) → Each HasRanges (lines_of mv)
middle-each b mv e more h =
    let events = (split-all HasRanges (lines_of ((b ++ mv) ++ e)) more h).0 in
    let run = (split-all HasRanges (lines_of (b ++ mv)) (lines_of e) (subst (Each HasRanges) (flat_map-append event_lines (b ++ mv) e) events)).0 in
    (split-all HasRanges (lines_of b) (lines_of mv) (subst (Each HasRanges) (flat_map-append event_lines b mv) run)).1

-- the parts of a poll, put together
joined-led : (f mid behind last : InterleavedState) (k : ℕ) (kept : List Kept) (m now : ℕ) (xids : ℕ → ℕ) (b mv e : List Event) (l : Output)
    → (first : Led f k kept m now xids (lines_of b) (told_of b) mid)
    → (second : Led mid first.earlier first.later_kept first.seen now xids (lines_of mv) (told_of mv) behind)
    → Led behind second.earlier second.later_kept second.seen now xids (lines_of e ++ l ∷ []) (told_of e) last
    → Led f k kept m now xids (lines_of ((b ++ mv) ++ e) ++ l ∷ []) (told_of ((b ++ mv) ++ e)) last
joined-led f mid behind last k kept m now xids b mv e l first second third =
    subst (λ ls. Led f k kept m now xids ls (told_of ((b ++ mv) ++ e)) last) (lines-joined b mv e l)
    (subst (λ es. Led f k kept m now xids (lines_of b ++ (lines_of mv ++ (lines_of e ++ l ∷ []))) es last) (told-joined b mv e)
    (led-append f mid last k kept m now xids xids (lines_of b) (lines_of mv ++ (lines_of e ++ l ∷ [])) (told_of b) (told_of mv ++ told_of e) first
    (led-append mid behind last first.earlier first.later_kept first.seen now xids xids (lines_of mv) (lines_of e ++ l ∷ []) (told_of mv) (told_of e) second third)))

-- what a later moment of the gateway leaves
later-led : (f last : InterleavedState) (k : ℕ) (kept : List Kept) (m now : ℕ) (xids : ℕ → ℕ) (lines : List Output) (es : List Event) → last.state.moment ≤ now
    → Led f k kept m now xids lines es last → Led f k kept m now xids lines es (at_moment last now)
later-led f last k kept m now xids lines es late led =
    led-same f last (at_moment last now) k kept m now xids lines es led refl refl (stands-later last xids now led.earlier led.later_kept led.seen now late led.stands)

-- a poll, by the beginning of its turn, its transfers and its end
parts-led : ReplyLaw → (f mid behind last : InterleavedState) (k : ℕ) (kept : List Kept) (m now : ℕ) (xids : ℕ → ℕ) (conn : ℕ) (starts : Bool) (moves : List Transfer) (ending : Ending)
    → StandsFor f xids now k kept m → f.state.moment ≤ now → is_some (pending_at f.state.tables conn) ≡ true
    → along interleaved_step (Some f) (cond starts (Begin conn now ∷ []) []) ≡ Some mid → along interleaved_step (Some mid) (moved_events conn moves) ≡ Some behind
    → along interleaved_step (Some behind) (end_events conn now ending) ≡ Some last
    → Each HasRanges (lines_of ((cond starts (Begin conn now ∷ []) [] ++ moved_events conn moves) ++ end_events conn now ending) ++ poll_line conn (xids conn) ending ∷ [])
    → Led f k kept m now xids (lines_of ((cond starts (Begin conn now ∷ []) [] ++ moved_events conn moves) ++ end_events conn now ending) ++ poll_line conn (xids conn) ending ∷ [])
    (told_of ((cond starts (Begin conn now ∷ []) [] ++ moved_events conn moves) ++ end_events conn now ending)) (at_moment last now)
parts-led law f mid behind last k kept m now xids conn starts moves ending st late has begun moved ended ranges =
    let first = begun-part f mid k kept m now xids conn starts st late begun in
    let bus = middle-each (cond starts (Begin conn now ∷ []) []) (moved_events conn moves) (end_events conn now ending) (poll_line conn (xids conn) ending ∷ []) ranges in
    let second = moved-part mid behind first.led.earlier first.led.later_kept first.led.seen now xids conn moves first.led.stands first.late moved bus in
    let still : is_some (pending_at behind.state.tables conn) ≡ true = ap (λ t. is_some (pending_at t conn)) (second.same ∙ first.same) ∙ has in
    let third = end-part law behind last second.led.earlier second.led.later_kept second.led.seen now xids conn ending second.led.stands second.late still ended in
    later-led f last k kept m now xids _ _ third.late
    (joined-led f mid behind last k kept m now xids (cond starts (Begin conn now ∷ []) []) (moved_events conn moves) (end_events conn now ending)
    (poll_line conn (xids conn) ending) first.led second.led third.led)

-- a whole poll
pub poll-led : ReplyLaw → (f g : InterleavedState) (k : ℕ) (kept : List Kept) (m now : ℕ) (xids : ℕ → ℕ) (conn : ℕ) (group : List Event) (shown : Option Output)
    → StandsFor f xids now k kept m → PollGives f conn now (xids conn) group shown g → Each HasRanges (lines_of group ++ noted shown)
    → Led f k kept m now xids (lines_of group ++ noted shown) (told_of group) g
poll-led law f g k kept m now xids conn group shown st gives ranges =
    let p = gives.polls in
    let starts = begins f conn now in
    let halves = split-along f p.behind (cond starts (Begin conn now ∷ []) []) (moved_events conn gives.moves) p.runs_to in
    let all = (cond starts (Begin conn now ∷ []) [] ++ moved_events conn gives.moves) ++ end_events conn now gives.ending in
    let each = subst (λ n. Each HasRanges (lines_of all ++ noted n)) gives.told (subst (λ es. Each HasRanges (lines_of es ++ noted shown)) gives.events ranges) in
    subst (λ es. Led f k kept m now xids (lines_of es ++ noted shown) (told_of es) g) (sym gives.events)
    (subst (λ n. Led f k kept m now xids (lines_of all ++ noted n) (told_of all) g) (sym gives.told)
    (subst (Led f k kept m now xids (lines_of all ++ poll_line conn (xids conn) gives.ending ∷ []) (told_of all)) (sym p.at_now)
    (parts-led law f halves.0 p.behind p.last k kept m now xids conn starts gives.moves gives.ending st p.late (ap is_some p.call_at) halves.1 halves.2 p.ended each)))
