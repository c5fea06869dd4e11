-- What each run of a turn comes to.
use Rattle.std.proofs.Common.{◌≡◌, ◌≢◌, ◌↔◌, ℕ, zero, suc, ◌+◌, ◌-◌, ◌<◌, ◌≤◌, Bool, true, false, not, cond, List, [], ◌∷◌, ◌++◌, map, length, take, drop, count_by, Option, Some, None, refl, sym, ap, ◌∙◌, subst, arith, add-zero, append_assoc}
use Rattle.std.specs.Prelude.{slice_set, min}
use Rattle.std.proofs.Math.Seq.{take-append_seam}
use Rattle.vx_calls.specs.declared.limits.TheConstants.{READ_MAX}
use Rattle.std.proofs.lemmas.List.{length-drop, length-take, take-take, drop-take, drop-drop, drop-append-le, take-append-drop}
use borrow.Rule.Slice.PartMut.{put_mid}
use Rattle.vx_488.specs.declared.transfers.Transfer.{Transfer}
use Rattle.vx_488.specs.declared.transfers.Transfer.TheVariants.{Put, Got}
use Rattle.vx_calls.specs.declared.targets.Target.{Target}
use Rattle.vx_488.specs.declared.asks.Ask.TheVariants as ask
use Rattle.vx_488.specs.declared.asks.Move.{Move}
use Rattle.vx_488.specs.declared.asks.Move.TheVariants as move
use Rattle.vx_488.specs.declared.bursts.Stop.{Stop}
use Rattle.vx_488.specs.declared.bursts.Stop.TheVariants as why
use Rattle.vx_488.specs.Means.{Means}
use Rattle.vx_488.specs.Steps.{Step, Went, Held, Failed, ask_for}
use Rattle.vx_488.specs.Walks.{StepsTo, Walk}
use Rattle.vx_488.specs.Bursts.{ended, refused_put, puts_steps, is_end, refused_get, gets_steps, IsClear, StopsAt}
use Rattle.vx_plan.specs.declared.tasks.Task.{Task}
use Rattle.vx_plan.specs.declared.tasks.Task.TheVariants.{Write, Read}
use Rattle.vx_plan.specs.declared.tasks.Place.{Place}
use Rattle.vx_plan.specs.Plan.{Slot, AnyByte, Plan, left_after, next_slot}
use Rattle.vx_plan.specs.Tasks.{puts, just, HasBytes}
use Rattle.vx_plan.specs.Results.{gots, bytes_got, last_of}
use Rattle.vx_plan.specs.Transfers.{is_got}
use Rattle.vx_plan.specs.Places.{carries_data, place_after, Reaches}
use Rattle.vx_plan.specs.Runs.{DataLeft, IsDataLeft, place_behind}
use Rattle.vx_plan.specs.Laws.{FitsNext, PlaceGoesOnLaw}
use Rattle.vx_plan.proofs.Laws.Counts.{length-puts}
use Rattle.vx_ctrl.specs.declared.turn.Went.{Went as Outcome}
use Rattle.vx_ctrl.specs.declared.turn.Went.TheVariants as went
use Rattle.vx_ctrl.specs.declared.turn.Advance.{Advance}
use Rattle.vx_ctrl.specs.declared.turn.Advance.TheVariants.{Made, Stopped}
use Rattle.vx_ctrl.specs.declared.asking.BusAnswer.TheVariants as asked
use Rattle.vx_ctrl.specs.Turns.{TurnState, with_bytes, stored, moved_on}
use Rattle.vx_ctrl.specs.Asking.{TurnAsks}
use Rattle.vx_ctrl.specs.Runs.{behind_puts_of, behind_gets_of, TurnEndsRun, Runs}
use Rattle.vx_ctrl.proofs.Walking.{path-split}
use Rattle.vx_ctrl.proofs.Rooms.{with-none, with-one-more, drop-seam}
use Rattle.vx_ctrl.proofs.Bursts.{ended-puts, front-puts, just-goes, IsData, data-put, no-gots, reading_left, gets-on, Goes, goes-end, goes-char, goes-filled, data-got, bytes-ended, length-ended}

-- the place behind data bytes alone
behind-data : (task : Task) (place : Place) (run : List Transfer) (n : ℕ) (last : Option (ℕ × Bool)) → IsData task run n → last_of place.last (gots run) ≡ last
    → record place { moved = place.moved + n; last = last } ≡ place_behind task place run
behind-data task place run n last d e =
    ap (λ (k : ℕ). record place { step = k; moved = place.moved + n; last = last }) (sym (add-zero place.step) ∙ ap (λ k. place.step + k) (sym d.steps))
    ∙ ap (λ (k : ℕ). record place { step = place.step + count_by (λ t. not (carries_data task t)) run; moved = place.moved + k; last = last }) (sym d.moves)
    ∙ ap (λ (l : Option (ℕ × Bool)). record place { step = place.step + count_by (λ t. not (carries_data task t)) run; moved = place.moved + count_by (carries_data task) run; last = l }) (sym e)

-- ---- a burst of puts

put-held : {B : Type 0} (means : B → Means) (through : B → Step → B → Type 0) (rest : List Transfer) (n : ℕ) (between after : B) → rest ≢ [] → 0 < n
    → Walk means through between (refused_put move.Held (take n rest)) after → TurnAsks means through (next_slot (just rest)) (asked.Stopped went.Held) between after
put-held means through [] n between after some more path = absurd (some refl)
put-held means through (t ∷ ts) zero between after some more path = absurd (omega arith)
put-held means through (t ∷ ts) (suc n) between after some more path = subst (λ b. StepsTo means through between (Held (ask_for t)) b) (sym path.2) path.1

put-failed : {B : Type 0} (means : B → Means) (through : B → Step → B → Type 0) (rest : List Transfer) (n : ℕ) (between after : B) → rest ≢ [] → 0 < n
    → Walk means through between (refused_put move.Failed (take n rest)) after → TurnAsks means through (next_slot (just rest)) (asked.Stopped went.Broken) between after
put-failed means through [] n between after some more path = absurd (some refl)
put-failed means through (t ∷ ts) zero between after some more path = absurd (omega arith)
put-failed means through (t ∷ ts) (suc n) between after some more path = subst (λ b. StepsTo means through between (Failed (ask_for t)) b) (sym path.2) path.1

module _ {B : Type 0} (means : B → Means) (through : B → Step → B → Type 0) (turn new : TurnState) (bytes room : List ℕ) (many : ℕ) (end on_last : Bool) (m : ℕ) (last : Move) (bus after : B)
    (task : (t : Target) × (len : ℕ) × (turn.task ≡ Write t len end)) (data_left : IsDataLeft turn.task turn.place (length bytes - turn.place.moved))
    (some : 0 < many) (fits : turn.place.moved + many ≤ length bytes) (within : m ≤ many) (whole : (last ≡ move.Went) ↔ (m ≡ many))
    (on_whole : turn.place.moved + many ≡ length bytes → on_last ≡ end) (on_part : turn.place.moved + many < length bytes → on_last ≡ false)
    (walk : Walk means through bus (puts_steps (take many (drop turn.place.moved bytes)) on_last (record { moved = m; last = last })) after)
    (moved : new ≡ record turn { place = record turn.place { moved = turn.place.moved + m } }) where
  abbrev pub all : List Transfer
  all = puts end (drop turn.place.moved bytes)

  abbrev pub run : List Transfer
  run = take m all

  -- the burst puts a front of what is left, END where it is the write's
  is-front : ended Put on_last (take many (drop turn.place.moved bytes)) ≡ take many all
  is-front =
      let ys = drop turn.place.moved bytes in
      ended-puts on_last (take many ys)
      ∙ front-puts end on_last ys many (omega (arith, fits, length-drop turn.place.moved bytes))
      (λ e. on_whole (omega (arith, e, fits, some, length-drop turn.place.moved bytes)))
      (λ e. on_part (omega (arith, e, fits, some, length-drop turn.place.moved bytes)))

  parts : (between : B) × Walk means through bus (map Went run) between × Walk means through between (refused_put last (drop m (take many all))) after
  parts =
      let P : List Transfer → Type 0 = λ ts. Walk means through bus (map Went (take m ts) ++ refused_put last (drop m ts)) after in
      let Q : List Transfer → Type 0 = λ ts. Walk means through bus (map Went ts ++ refused_put last (drop m (take many all))) after in
      path-split (StepsTo means through) bus after (map Went run) (refused_put last (drop m (take many all)))
      (subst Q (take-take m many all within) (subst P is-front walk))

  length-all : length all ≡ length bytes - turn.place.moved
  length-all = length-puts end (drop turn.place.moved bytes) ∙ length-drop turn.place.moved bytes

  length-run : length run ≡ m
  length-run = length-take m all ∙ omega (arith, length-all, within, fits)

  is-data : IsData turn.task run m
  is-data = data-put turn.task end (drop turn.place.moved bytes) m (omega (arith, within, fits, length-drop turn.place.moved bytes))

  shape : (ts : List Transfer) (left : Plan) → Reaches turn.task bytes ts left turn.place → left ≡ just all
  shape ts left r =
      let D : Task → Type 0 = λ task. DataLeft task bytes turn.place.moved left (length bytes - turn.place.moved) in
      let d = subst D task.2 (data_left bytes ts left r) in
      (d.1 (λ none. absurd (omega (arith, none, some, fits)))).0

  fewer : last ≢ move.Went → m < many
  fewer not =
      let differ : m ≢ many = λ e. not (whole.1 e) in
      omega (arith, within, differ)

  rest-some : m < many → drop m all ≢ []
  rest-some less none =
      let gone : length (drop m all) ≡ 0 = ap (λ (ts : List Transfer). length ts) none in
      omega (arith, gone, length-drop m all, length-all, less, fits)

  -- what the burst still had to put is a front of what the write has
  burst-rest : drop m (take many all) ≡ take (many - m) (drop m all)
  burst-rest =
      let sum : many ≡ m + (many - m) = omega (arith, within) in
      ap (λ k. drop m (take k all)) sum ∙ drop-take m (many - m) all

  -- whichever it ended with, it is a run
  by-end : TurnEndsRun means through (next_slot (just (drop m all))) run many (behind_puts_of m last) parts.0 after
      → Runs means through turn bytes room new room many (behind_puts_of m last) bus after
  by-end ends = record {
    run = run;
    between = parts.0;
    walk = parts.1;
    moved = moved ∙ ap (λ (p : Place). record turn { place = p })
        (behind-data turn.task turn.place run m turn.place.last is-data (ap (last_of turn.place.last) (no-gots end (drop turn.place.moved bytes) m)));
    stored = sym (ap (λ bs. with_bytes turn.place.moved (map (λ g. g.0) bs) room) (no-gots end (drop turn.place.moved bytes) m) ∙ with-none turn.place.moved room);
    goes = λ ts left r. (just (drop m all), ap (λ l. left_after (Some l) run) (shape ts left r) ∙ just-goes all m, ends);
  }

  ends-went : last ≡ move.Went → TurnEndsRun means through (next_slot (just (drop m all))) run many (Made m) parts.0 after
  ends-went e =
      let P : Move → Type 0 = λ l. Walk means through parts.0 (refused_put l (drop m (take many all))) after in
      let all-went = whole.0 e in
      (subst P e parts.2, sym length-run, omega (arith, all-went, some), within)

  ends-held : last ≡ move.Held → TurnEndsRun means through (next_slot (just (drop m all))) run many (Stopped went.Held) parts.0 after
  ends-held e =
      let P : Move → Type 0 = λ l. Walk means through parts.0 (refused_put l (drop m (take many all))) after in
      let Q : List Transfer → Type 0 = λ ts. Walk means through parts.0 (refused_put move.Held ts) after in
      let less = fewer (λ w. let not : move.Held ≡ move.Went = sym e ∙ w in cc) in (
        put-held means through (drop m all) (many - m) parts.0 after (rest-some less) (omega (arith, less)) (subst Q burst-rest (subst P e parts.2)),
        omega (arith, less, length-run),
      )

  ends-failed : last ≡ move.Failed → TurnEndsRun means through (next_slot (just (drop m all))) run many (Stopped went.Broken) parts.0 after
  ends-failed e =
      let P : Move → Type 0 = λ l. Walk means through parts.0 (refused_put l (drop m (take many all))) after in
      let Q : List Transfer → Type 0 = λ ts. Walk means through parts.0 (refused_put move.Failed ts) after in
      let less = fewer (λ w. let not : move.Failed ≡ move.Went = sym e ∙ w in cc) in (
        put-failed means through (drop m all) (many - m) parts.0 after (rest-some less) (omega (arith, less)) (subst Q burst-rest (subst P e parts.2)),
        omega (arith, less, length-run),
      )

  ends-put : (l : Move) → last ≡ l → TurnEndsRun means through (next_slot (just (drop m all))) run many (behind_puts_of m l) parts.0 after
  ends-put move.Went e = ends-went e
  ends-put move.Held e = ends-held e
  ends-put move.Failed e = ends-failed e

  -- a burst of puts is a run
  pub put-runs : Runs means through turn bytes room new room many (behind_puts_of m last) bus after
  put-runs = by-end (ends-put last refl)

-- ---- a burst of gets

-- the room behind a burst into a part of it
part-kept : (at many n : ℕ) (room part : List ℕ) → n ≤ length (take many (drop at room)) → drop n part ≡ drop n (take many (drop at room))
    → put_mid at many room part ≡ take at room ++ take n part ++ drop (at + n) room
part-kept at many n room part within kept =
    let ys = drop at room in
    let behind : drop n part ++ drop many ys ≡ drop (at + n) room =
    ap (λ xs. xs ++ drop many ys) kept ∙ sym (drop-append-le n (take many ys) (drop many ys) within)
    ∙ ap (drop n) (take-append-drop many ys) ∙ drop-drop n at room in
    ap (λ xs. take at room ++ (xs ++ drop many ys)) (sym (take-append-drop n part))
    ∙ ap (λ xs. take at room ++ xs) (append_assoc (take n part) (drop n part) (drop many ys))
    ∙ sym (append_assoc (take at room) (take n part) (drop n part ++ drop many ys))
    ∙ ap (λ xs. take at room ++ take n part ++ xs) behind

pub part-stored : (at many n : ℕ) (room part : List ℕ) → at + many ≤ length room → n ≤ many → length part ≡ many
    → drop n part ≡ drop n (take many (drop at room)) → put_mid at many room part ≡ with_bytes at (take n part) room
part-stored at many n room part fits within long kept =
    let count : length (take n part) ≡ n = length-take n part ∙ omega (arith, long) in
    part-kept at many n room part (omega (arith, length-take many (drop at room), length-drop at room)) kept
    ∙ ap (λ k. take at room ++ take n part ++ drop (at + k) room) (sym count)

get-held : {B : Type 0} (means : B → Means) (through : B → Step → B → Type 0) (between after : B)
    → Walk means through between (refused_get why.Held) after → TurnAsks means through (Some AnyByte) (asked.Stopped went.Held) between after
get-held means through between after path = subst (λ b. StepsTo means through between (Held ask.Get) b) (sym path.2) path.1

get-failed : {B : Type 0} (means : B → Means) (through : B → Step → B → Type 0) (between after : B)
    → Walk means through between (refused_get why.Failed) after → TurnAsks means through (Some AnyByte) (asked.Stopped went.Broken) between after
get-failed means through between after path = subst (λ b. StepsTo means through between (Failed ask.Get) b) (sym path.2) path.1

module _ {B : Type 0} (means : B → Means) (through : B → Step → B → Type 0) (turn new : TurnState) (bytes room room' : List ℕ) (stop : Option ℕ) (n many : ℕ) (got : List ℕ) (bus after : B)
    (task : (t : Target) × (max : ℕ) × (turn.task ≡ Read t max stop)) (data_left : IsDataLeft turn.task turn.place n)
    (some : 0 < many) (fewer : many ≤ n) (within : length got ≤ many) (stored : room' ≡ with_bytes turn.place.moved got room) where
  shape-read : (ts : List Transfer) (left : Plan) → Reaches turn.task bytes ts left turn.place → left ≡ reading_left n stop
  shape-read ts left r =
      let D : Task → Type 0 = λ task. DataLeft task bytes turn.place.moved left n in
      let d = subst D task.2 (data_left bytes ts left r) in
      (d.1 (λ none. absurd (omega (arith, none, some, fewer)))).0

  by-stop : (e : Bool) (advance : Advance) (between : B)
      → new ≡ record turn { place = record turn.place { moved = turn.place.moved + length got; last = last_of turn.place.last (gots (ended Got e got)) } }
      → Walk means through bus (map Went (ended Got e got)) between
      → (left' : Plan) × (left_after (Some (reading_left n stop)) (ended Got e got) ≡ Some left') × TurnEndsRun means through (next_slot left') (ended Got e got) many advance between after
      → Runs means through turn bytes room new room' many advance bus after
  by-stop e advance between moved walk goes = record {
    run = ended Got e got;
    between = between;
    walk = walk;
    moved = moved ∙ ap (λ (p : Place). record turn { place = p }) (behind-data turn.task turn.place (ended Got e got) (length got) _ (data-got turn.task e got) refl);
    stored = stored ∙ ap (λ bs. with_bytes turn.place.moved bs room) (sym (bytes-ended e got));
    goes = λ ts left r. (goes.0, ap (λ l. left_after (Some l) (ended Got e got)) (shape-read ts left r) ∙ goes.1, goes.2);
  }

  -- it stopped with a byte
  by-byte : (e : Bool) (between : B)
      → new ≡ record turn { place = record turn.place { moved = turn.place.moved + length got; last = last_of turn.place.last (gots (ended Got e got)) } }
      → Walk means through bus (map Went (ended Got e got)) between → after ≡ between → Goes n stop got e
      → Runs means through turn bytes room new room' many (Made (length got)) bus after
  by-byte e between moved walk same goes =
      by-stop e (Made (length got)) between moved walk (goes.left, goes.goes, (same, sym (length-ended e got), goes.some, within))

  -- it stopped before the next one
  by-none : (outcome : Outcome) (between : B)
      → new ≡ record turn { place = record turn.place { moved = turn.place.moved + length got; last = last_of turn.place.last (gots (ended Got false got)) } }
      → Walk means through bus (map Went (ended Got false got)) between → TurnAsks means through (Some AnyByte) (asked.Stopped outcome) between after
      → (length got < many) × IsClear stop got → Runs means through turn bytes room new room' many (Stopped outcome) bus after
  by-none outcome between moved walk asks stops =
      by-stop false (Stopped outcome) between moved walk (
        reading_left (n - length got) stop,
        gets-on n stop got stops.1 (omega (arith, stops.0, fewer)),
        (asks, omega (arith, stops.0, length-ended false got)),
      )

  -- a burst of gets is a run
  pub get-runs : (reason : Stop)
      → new ≡ record turn { place = record turn.place { moved = turn.place.moved + length got; last = last_of turn.place.last (gots (ended Got (is_end reason) got)) } }
      → StopsAt stop many got reason → Walk means through bus (gets_steps got reason) after
      → Runs means through turn bytes room new room' many (behind_gets_of (length got) reason) bus after
  get-runs why.Full moved stops walk =
      let parts = path-split (StepsTo means through) bus after (map Went (ended Got false got)) [] walk in
      by-byte false parts.0 moved parts.1 parts.2 (goes-filled n many stop got some fewer stops)
  get-runs why.End moved stops walk =
      let parts = path-split (StepsTo means through) bus after (map Went (ended Got true got)) [] walk in
      by-byte true parts.0 moved parts.1 parts.2 (goes-end n many stop got (omega (arith, within, fewer)) stops)
  get-runs why.Char moved stops walk =
      let parts = path-split (StepsTo means through) bus after (map Went (ended Got false got)) [] walk in
      by-byte false parts.0 moved parts.1 parts.2 (goes-char n many stop got (omega (arith, within, fewer)) stops)
  get-runs why.Held moved stops walk =
      let parts = path-split (StepsTo means through) bus after (map Went (ended Got false got)) (refused_get why.Held) walk in
      by-none went.Held parts.0 moved parts.1 (get-held means through parts.0 after parts.2) stops
  get-runs why.Failed moved stops walk =
      let parts = path-split (StepsTo means through) bus after (map Went (ended Got false got)) (refused_get why.Failed) walk in
      by-none went.Broken parts.0 moved parts.1 (get-failed means through parts.0 after parts.2) stops

-- ---- one transfer

-- the place behind none, and behind one
behind-none : (task : Task) (place : Place) → place ≡ place_behind task place []
behind-none task place =
    ap (λ (k : ℕ). record place { step = k }) (sym (add-zero place.step)) ∙ ap (λ (k : ℕ). record place { step = place.step + 0; moved = k }) (sym (add-zero place.moved))

abbrev One : Place → Bool → Type 0
One place e =
    record place { step = cond e place.step (place.step + 1); moved = cond e (place.moved + 1) place.moved }
    ≡ record place { step = place.step + (0 + cond (not e) 1 0); moved = place.moved + (0 + cond e 1 0) }

one : (place : Place) (e : Bool) → One place e
one place true =
    let none : place.step ≡ place.step + 0 = omega arith in
    ap (λ (k : ℕ). record place { step = k; moved = place.moved + 1 }) none
one place false =
    let none : place.moved ≡ place.moved + 0 = omega arith in
    ap (λ (k : ℕ). record place { step = place.step + 1; moved = k }) none

behind-one : (task : Task) (place : Place) (t : Transfer) → place_after task place t ≡ place_behind task place (t ∷ [])
behind-one task place (Got b end) = ap (λ (p : Place). record p { last = Some (b, end) }) (one place true)
behind-one task place (Put b end) = one place true
behind-one task place t = one place (carries_data task t)

-- the room behind one transfer
stored-one : (at : ℕ) (t : Transfer) (room : List ℕ) → (is_got t ≡ true → at < length room) → stored at t room ≡ with_bytes at (bytes_got (t ∷ [])) room
stored-one at (Got b end) room h =
    let none : at ≡ at + 0 = omega arith in
    ap (λ (xs : List ℕ). slice_set xs at b) (sym (with-none at room)) ∙ with-one-more at [] room at b none (h refl)
stored-one at t room h = sym (with-none at room)

-- what an ask that made a transfer says
pub made-fits : {B : Type 0} (means : B → Means) (through : B → Step → B → Type 0) (slot : Option Slot) (t : Transfer) (now after : B)
    → TurnAsks means through slot (asked.Moved t) now after → FitsNext slot t × StepsTo means through now (Went t) after
made-fits means through (Some slot) t now after asks = asks
made-fits means through None t now after asks = absurd asks

-- an ask that made a transfer is a run of one
pub one-runs : {B : Type 0} (means : B → Means) (through : B → Step → B → Type 0) (turn : TurnState) (bytes room : List ℕ) (t : Transfer) (bus after : B) → PlaceGoesOnLaw
    → (ts : List Transfer) (left : Plan) → Reaches turn.task bytes ts left turn.place
    → ((ts : List Transfer) (left : Plan) → Reaches turn.task bytes ts left turn.place → TurnAsks means through (next_slot left) (asked.Moved t) bus after)
    → (is_got t ≡ true → turn.place.moved < length room)
    → Runs means through turn bytes room (moved_on turn t) (stored turn.place.moved t room) 1 (Made 1) bus after
one-runs means through turn bytes room t bus after law ts left r asks fits = record {
  run = t ∷ [];
  between = after;
  walk = (after, (made-fits means through (next_slot left) t bus after (asks ts left r)).1, refl);
  moved = ap (λ (p : Place). record turn { place = p }) (behind-one turn.task turn.place t);
  stored = stored-one turn.place.moved t room fits;
  goes = λ ts left r.
      let next = law turn.task bytes ts left turn.place t r (made-fits means through (next_slot left) t bus after (asks ts left r)).0 in
      (next.0, next.1, (refl, refl, omega arith, omega arith));
}

-- and one that made none a run of none, where some might have been made
pub none-runs : {B : Type 0} (means : B → Means) (through : B → Step → B → Type 0) (turn : TurnState) (bytes room : List ℕ) (outcome : Outcome) (bus after : B)
    → ((ts : List Transfer) (left : Plan) → Reaches turn.task bytes ts left turn.place → TurnAsks means through (next_slot left) (asked.Stopped outcome) bus after)
    → Runs means through turn bytes room turn room 1 (Stopped outcome) bus after
none-runs means through turn bytes room outcome bus after asks = record {
  run = [];
  between = bus;
  walk = refl;
  moved = ap (λ (p : Place). record turn { place = p }) (behind-none turn.task turn.place);
  stored = sym (with-none turn.place.moved room);
  goes = λ ts left r. (left, refl, (asks ts left r, omega arith));
}

-- a run of at most so many is one of at most as many, or more
ends-within : {B : Type 0} (means : B → Means) (through : B → Step → B → Type 0) (slot : Option Slot) (run : List Transfer) (few most : ℕ) (advance : Advance) (between after : B)
    → few ≤ most → TurnEndsRun means through slot run few advance between after → TurnEndsRun means through slot run most advance between after
ends-within means through slot run few most (Made n) between after h ends = (ends.0, ends.1, ends.2, omega (arith, h, ends.3))
ends-within means through slot run few most (Stopped outcome) between after h ends = (ends.0, omega (arith, h, ends.1))

pub runs-within : {B : Type 0} (means : B → Means) (through : B → Step → B → Type 0) (turn : TurnState) (bytes room : List ℕ) (new : TurnState) (room' : List ℕ) (few most : ℕ)
    (advance : Advance) (bus after : B) → few ≤ most → Runs means through turn bytes room new room' few advance bus after → Runs means through turn bytes room new room' most advance bus after
runs-within means through turn bytes room new room' few most advance bus after h runs = record {
  run = runs.run;
  between = runs.between;
  walk = runs.walk;
  moved = runs.moved;
  stored = runs.stored;
  goes = λ ts left r.
      let next = runs.goes ts left r in
      (next.0, next.1, ends-within means through (next_slot next.0) runs.run few most advance runs.between after h next.2);
}

-- ---- what a run asks for

-- the data of a write end with its bytes
pub write-left : (turn : TurnState) (bytes : List ℕ) (n : ℕ) (t : Target) (len : ℕ) (end : Bool) (ts : List Transfer) (left : Plan) → turn.task ≡ Write t len end
    → IsDataLeft turn.task turn.place n → Reaches turn.task bytes ts left turn.place → n ≢ 0 → turn.place.moved + n ≡ length bytes
write-left turn bytes n t len end ts left is d r some =
    let D : Task → Type 0 = λ task. DataLeft task bytes turn.place.moved left n in
    let S : Task → Type 0 = λ task. HasBytes task bytes in
    ((subst D is (d bytes ts left r)).1 some).1 ∙ sym (subst S is r.sent)

-- those of a read with the most that it may get
pub read-left : (turn : TurnState) (bytes : List ℕ) (n : ℕ) (t : Target) (max : ℕ) (stop : Option ℕ) (ts : List Transfer) (left : Plan) → turn.task ≡ Read t max stop
    → IsDataLeft turn.task turn.place n → Reaches turn.task bytes ts left turn.place → n ≢ 0 → turn.place.moved + n ≡ min max READ_MAX
read-left turn bytes n t max stop ts left is d r some =
    let D : Task → Type 0 = λ task. DataLeft task bytes turn.place.moved left n in
    ((subst D is (d bytes ts left r)).1 some).1

-- the bytes of a room that were put there
pub slice-stored : (at : ℕ) (xs room : List ℕ) (k : ℕ) → at ≤ length room → k ≡ length xs → take k (drop at (with_bytes at xs room)) ≡ xs
slice-stored at xs room k within long =
    let front = take at room in
    let rest = drop (at + length xs) room in
    let seam : length front ≡ at = length-take at room ∙ omega (arith, within) in
    let behind : drop at (with_bytes at xs room) ≡ xs ++ rest =
    ap (drop at) (append_assoc front xs rest) ∙ ap (λ n. drop n (front ++ (xs ++ rest))) (sym seam) ∙ drop-seam front (xs ++ rest) in
    ap (take k) behind ∙ ap (λ n. take n (xs ++ rest)) long ∙ take-append_seam xs rest
