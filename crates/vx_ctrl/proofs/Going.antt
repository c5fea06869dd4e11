-- A turn that goes on: what it made of its plan since it began to go.
use Rattle.std.proofs.Common.{◌≡◌, ◌≢◌, ℕ, ◌+◌, ◌-◌, ◌<◌, ◌≤◌, List, [], ◌∷◌, ◌++◌, map, length, take, count_by, cond, Option, Some, None, refl, sym, ap, ◌∙◌, subst, arith, append_assoc, length-append}
use Rattle.std.proofs.lemmas.List.{map-append, append-nil, length-take}
use Rattle.std.proofs.lemmas.List.Sums.{sum_by-append}
use Rattle.vx_488.specs.declared.transfers.TheConstants.{ADDRESS_MAX}
use Rattle.vx_488.specs.declared.transfers.Transfer.{Transfer}
use Rattle.vx_488.specs.declared.wire.Wire.{Wire}
use Rattle.vx_488.specs.Wire.{wire_after}
use Rattle.vx_488.specs.Laws.{WireAppendsLaw}
use Rattle.vx_488.specs.Means.{Means}
use Rattle.vx_488.specs.Steps.{Step, Went}
use Rattle.vx_488.specs.Walks.{StepsTo, Walk}
use Rattle.vx_plan.specs.declared.tasks.Task.{Task}
use Rattle.vx_plan.specs.declared.tasks.Place.{Place}
use Rattle.vx_plan.specs.declared.tasks.Next.{Next}
use Rattle.vx_plan.specs.declared.tasks.Next.TheVariants as next
use Rattle.vx_plan.specs.Plan.{Slot, Reading, Plan, stand_of, left_after, next_slot}
use Rattle.vx_plan.specs.Results.{bytes_got}
use Rattle.vx_plan.specs.Transfers.{is_got}
use Rattle.vx_plan.specs.Tasks.{IsPlainTask}
use Rattle.vx_calls.specs.declared.limits.TheConstants.{SLICE_MAX, WRITE_MAX}
use Rattle.vx_488.specs.declared.asks.TheConstants.{ASK_MAX}
use Rattle.vx_plan.specs.Places.{Reaches, IsReached, slot_wanted}
use Rattle.vx_plan.specs.Runs.{place_behind}
use Rattle.vx_plan.specs.Laws.{RunLaw}
use Rattle.vx_ctrl.specs.declared.turn.Went.{Went as Outcome}
use Rattle.vx_ctrl.specs.declared.turn.Went.TheVariants as went
use Rattle.vx_ctrl.specs.declared.turn.Advance.{Advance}
use Rattle.vx_ctrl.specs.declared.turn.Advance.TheVariants.{Made, Stopped}
use Rattle.vx_ctrl.specs.declared.asking.BusAnswer.TheVariants as asked
use Rattle.vx_ctrl.specs.Turns.{TurnState, HasMade, TurnHasRoom, GetsBytes, with_bytes}
use Rattle.vx_ctrl.specs.Goes.{TurnBegins, TurnGoes, FitsSlice, refused_steps, go_steps, outcome_stand, HoldsBytes}
use Rattle.vx_ctrl.specs.Asking.{TurnAsks, IsPlainNext}
use Rattle.vx_ctrl.specs.Runs.{behind_slice_of, TurnEndsRun, Runs}
use Rattle.vx_ctrl.proofs.Laws.Sizes.{most_gets}
use Rattle.vx_ctrl.proofs.Laws.Fares.{fares, own-short, moved-got, room-left, gets-bytes, length-gots, length-bytes_got, bytes_got-append}
use Rattle.vx_488.proofs.Laws.Puts.{path-append}
use Rattle.vx_ctrl.proofs.Walking.{walk-went}
use Rattle.vx_ctrl.proofs.Rooms.{with-more, with-none, take-with}

-- what an ask that made no transfer says: the bus has the same list and wire, and went through the one ask that didn't go, if any
pub record Stops {B : Type 0} (means : B → Means) (through : B → Step → B → Type 0) (slot : Option Slot) (outcome : Outcome) (now after : B) : Type 0 where
  pub moves : (means after).moves ≡ (means now).moves
  pub wire : (means after).wire ≡ (means now).wire
  pub walk : Walk means through now (refused_steps outcome slot) after

pub stops : {B : Type 0} (means : B → Means) (through : B → Step → B → Type 0) (slot : Option Slot) (outcome : Outcome) (now after : B)
    → TurnAsks means through slot (asked.Stopped outcome) now after → Stops means through slot outcome now after
stops means through (Some slot) went.Held now after asks = record {
  moves = ap (λ (m : Means). m.moves) asks.0;
  wire = ap (λ (m : Means). m.wire) asks.0;
  walk = (after, asks, refl);
}
stops means through (Some slot) went.Broken now after asks = record {
  moves = ap (λ (m : Means). m.moves) asks.0;
  wire = ap (λ (m : Means). m.wire) asks.0;
  walk = (after, asks, refl);
}
stops means through (Some slot) went.Finished now after asks = absurd asks
stops means through None went.Finished now after asks = record {
  moves = ap (λ at. (means at).moves) asks;
  wire = ap (λ at. (means at).wire) asks;
  walk = asks;
}
stops means through None went.Held now after asks = absurd asks
stops means through None went.Broken now after asks = absurd asks
stops means through (Some slot) went.Slice now after asks = absurd asks
stops means through None went.Slice now after asks = absurd asks

-- a turn that the bus stops is within its slice
fits-stops : {B : Type 0} (means : B → Means) (through : B → Step → B → Type 0) (slot : Option Slot) (outcome : Outcome) (n : ℕ) (now after : B)
    → TurnAsks means through slot (asked.Stopped outcome) now after → n < SLICE_MAX → FitsSlice outcome n
fits-stops means through slot went.Finished n now after asks h = omega (arith, h)
fits-stops means through slot went.Held n now after asks h = h
fits-stops means through slot went.Broken n now after asks h = h
fits-stops means through (Some slot) went.Slice n now after asks h = absurd asks
fits-stops means through None went.Slice n now after asks h = absurd asks

-- a plan is whole exactly where nothing is wanted
stand-stops : {B : Type 0} (means : B → Means) (through : B → Step → B → Type 0) (slots : List Slot) (reading : Option Reading) (outcome : Outcome) (now after : B)
    → TurnAsks means through (next_slot (record { front = slots; reading = reading })) (asked.Stopped outcome) now after
    → stand_of (Some (record { front = slots; reading = reading })) ≡ outcome_stand outcome
stand-stops means through [] None went.Finished now after asks = refl
stand-stops means through [] None went.Held now after asks = absurd asks
stand-stops means through [] None went.Broken now after asks = absurd asks
stand-stops means through [] (Some r) went.Finished now after asks = absurd asks
stand-stops means through [] (Some r) went.Held now after asks = refl
stand-stops means through [] (Some r) went.Broken now after asks = refl
stand-stops means through (slot ∷ slots) reading went.Finished now after asks = absurd asks
stand-stops means through (slot ∷ slots) reading went.Held now after asks = refl
stand-stops means through (slot ∷ slots) reading went.Broken now after asks = refl
stand-stops means through [] None went.Slice now after asks = absurd asks
stand-stops means through [] (Some r) went.Slice now after asks = absurd asks
stand-stops means through (slot ∷ slots) reading went.Slice now after asks = absurd asks

stand-slice : (slots : List Slot) (reading : Option Reading)
    → stand_of (Some (record { front = slots; reading = reading })) ≡ outcome_stand (behind_slice_of (next_slot (record { front = slots; reading = reading })))
stand-slice [] None = refl
stand-slice [] (Some r) = refl
stand-slice (slot ∷ slots) reading = refl

-- a whole slice fits, whether the plan is whole or not
fits-slice : (slot : Option Slot) (n : ℕ) → n ≡ SLICE_MAX → FitsSlice (behind_slice_of slot) n
fits-slice None n h = omega (arith, h)
fits-slice (Some slot) n h = h

-- nothing was refused behind it
none-refused : (slot wanted : Option Slot) → refused_steps (behind_slice_of slot) wanted ≡ []
none-refused None wanted = refl
none-refused (Some slot) None = refl
none-refused (Some slot) (Some other) = refl

-- a move that is wanted is something
pub something-left : (wanted : Next) (bytes : List ℕ) (moved : ℕ) → (wanted ≡ next.Finished → ⊥) → behind_slice_of (slot_wanted wanted bytes moved) ≡ went.Slice
something-left (next.Command b) bytes moved h = refl
something-left next.CommandByte bytes moved h = refl
something-left (next.Put end) bytes moved h = refl
something-left next.Get bytes moved h = refl
something-left (next.Ren on) bytes moved h = refl
something-left (next.Atn on) bytes moved h = refl
something-left next.Ifc bytes moved h = refl
something-left (next.Own a) bytes moved h = refl
something-left next.Finished bytes moved h = absurd (h refl)

-- what the turn made since it began to go, behind this list
pub record UnderWay {B : Type 0} (means : B → Means) (through : B → Step → B → Type 0) (turn : TurnState) (w : Wire) (bytes : List ℕ)
    (made : List Transfer) (left : Plan) (before now : B) : Type 0 where
  pub has_made : HasMade turn w bytes (made ++ (means now).moves) left
  pub walk : Walk means through before (map Went (means now).moves) now

-- it goes on by a run of transfers that are wanted
pub goes-on : {B : Type 0} (means : B → Means) (through : B → Step → B → Type 0) (turn : TurnState) (w : Wire) (bytes : List ℕ)
    (made : List Transfer) (left left' : Plan) (before now after : B) (run : List Transfer) → RunLaw
    → UnderWay means through turn w bytes made left before now → left_after (Some left) run ≡ Some left' → Walk means through now (map Went run) after
    → UnderWay means through (record turn { place = place_behind turn.task turn.place run }) w bytes made left' before after
goes-on means through turn w bytes made left left' before now after run law u goes walk =
    let moves = (means now).moves in
    let new : TurnState = record turn { place = place_behind turn.task turn.place run } in
    let reaches = law turn.task bytes (made ++ moves) run left left' turn.place u.has_made.reaches goes in
    let same : moves ++ run ≡ (means after).moves = sym (ap (λ (m : Means). m.moves) (walk-went means through now after run walk)) in
    let P : List Transfer → Type 0 = λ ts. HasMade new w bytes (made ++ ts) left' in
    let Q : List Transfer → Type 0 = λ ts. HasMade new w bytes ts left' in
    let W : List Transfer → Type 0 = λ ts. Walk means through before (map Went ts) after in
    let V : List Step → Type 0 = λ steps. Walk means through before steps after in
    record {
      has_made = subst P same (subst Q (append_assoc made moves run) (record { polling = u.has_made.polling; own = u.has_made.own; reaches = reaches }));
      walk = subst W same (subst V (sym (map-append Went moves run)) (path-append (StepsTo means through) before now after (map Went moves) (map Went run) u.walk walk));
    }

-- where the turn stops, it went as far as its plan and the bus let it
pub goes-so-far : {B : Type 0} (means : B → Means) (through : B → Step → B → Type 0) (turn : TurnState) (w : Wire) (bytes : List ℕ)
    (made : List Transfer) (left : Plan) (before now after : B) (outcome : Outcome)
    → UnderWay means through turn w bytes made left before now → length (means now).moves < SLICE_MAX
    → TurnAsks means through (next_slot left) (asked.Stopped outcome) now after
    → TurnGoes means through turn w bytes made (means after).moves outcome before after
goes-so-far means through turn w bytes made left before now after outcome u few asked =
    let stop = stops means through (next_slot left) outcome now after asked in
    let H : List Transfer → Type 0 = λ ts. HasMade turn w bytes (made ++ ts) left in
    let W : List Transfer → Type 0 = λ ts. Walk means through before (go_steps ts outcome left) after in
    record {
      left = left;
      has_made = subst H (sym stop.moves) u.has_made;
      stands = stand-stops means through left.front left.reading outcome now after asked;
      few = fits-stops means through (next_slot left) outcome (length (means after).moves) now after asked
          (omega (arith, few, ap (λ (ts : List Transfer). length ts) stop.moves));
      walk = subst W (sym stop.moves)
          (path-append (StepsTo means through) before now after (map Went (means now).moves) (refused_steps outcome (next_slot left)) u.walk stop.walk);
    }

-- where its slice is full, it went just so far
pub goes-slice : {B : Type 0} (means : B → Means) (through : B → Step → B → Type 0) (turn : TurnState) (w : Wire) (bytes : List ℕ)
    (made : List Transfer) (left : Plan) (before now : B) (outcome : Outcome)
    → UnderWay means through turn w bytes made left before now → length (means now).moves ≡ SLICE_MAX → outcome ≡ behind_slice_of (next_slot left)
    → TurnGoes means through turn w bytes made (means now).moves outcome before now
goes-slice means through turn w bytes made left before now outcome u full is =
    let moves = (means now).moves in
    let slot = next_slot left in
    let same : map Went moves ≡ go_steps moves outcome left =
    sym (append-nil (map Went moves)) ∙ ap (λ steps. map Went moves ++ steps) (sym (none-refused slot slot))
    ∙ ap (λ o. map Went moves ++ refused_steps o slot) (sym is) in
    record {
      left = left;
      has_made = u.has_made;
      stands = stand-slice left.front left.reading ∙ ap outcome_stand (sym is);
      few = subst (λ o. FitsSlice o (length moves)) (sym is) (fits-slice slot (length moves) full);
      walk = subst (λ steps. Walk means through before steps now) same u.walk;
    }

-- The loop of a turn that goes: what it made since it began, the room, what the bus counted, and how many transfers are left
-- of its slice.
pub record Going {B : Type 0} (means : B → Means) (through : B → Step → B → Type 0) (first turn : TurnState) (bytes begun room : List ℕ)
    (before now : B) (rest : ℕ) : Type 0 where
  pub same : turn ≡ record first { place = turn.place }
  pub asks : (means now).asks ≡ length (means now).moves
  pub slice : length (means now).moves + rest ≡ SLICE_MAX
  pub wire : (means now).wire ≡ wire_after (means before).wire (means now).moves
  pub stored : room ≡ with_bytes first.place.moved (bytes_got (means now).moves) begun
  pub under_way : (w : Wire) (made : List Transfer) → TurnBegins first w bytes made (means before)
      → (left : Plan) × UnderWay means through turn w bytes made left before now

-- what a caller of a turn that goes keeps to
pub record Ready (first : TurnState) (bytes room : List ℕ) (means : Means) : Type 0 where
  pub plain : IsPlainTask first.task
  pub own : first.place.own ≤ ADDRESS_MAX
  pub short : length bytes ≤ WRITE_MAX
  pub has_room : TurnHasRoom first.task (length room)
  pub cut : means.moves ≡ []
  pub none_asked : means.asks ≡ 0
  pub begins : (w : Wire) × (made : List Transfer) × TurnBegins first w bytes made means

pub begins-going : {B : Type 0} (means : B → Means) (through : B → Step → B → Type 0) (first : TurnState) (bytes room : List ℕ) (before : B)
    → Ready first bytes room (means before) → Going means through first first bytes room room before before SLICE_MAX
begins-going means through first bytes room before ready =
    let E : List Transfer → Type 0 = λ ts. (means before).asks ≡ length ts in
    let W : List Transfer → Type 0 = λ ts. (means before).wire ≡ wire_after (means before).wire ts in
    let R : List Transfer → Type 0 = λ ts. room ≡ with_bytes first.place.moved (bytes_got ts) room in
    let none = sym ready.cut in
    record {
      same = refl;
      asks = subst E none ready.none_asked;
      slice = omega (arith, ap (λ (ts : List Transfer). length ts) ready.cut);
      wire = subst W none refl;
      stored = subst R none (sym (with-none first.place.moved room));
      under_way = λ w made b.
          let H : List Transfer → Type 0 = λ ts. HasMade first w bytes ts b.left in
          let P : List Transfer → Type 0 = λ ts. Walk means through before (map Went ts) before in (
            b.left,
            record {
              has_made = subst H (sym (append-nil made) ∙ ap (λ ts. made ++ ts) none) b.had_made;
              walk = subst P none refl;
            },
          );
    }

-- a new own address that a plan wants is 0 to 30
pub plain-next : (task : Task) (bytes : List ℕ) (ts : List Transfer) (left : Plan) (place : Place) → IsPlainTask task
    → Reaches task bytes ts left place → (next : Next) → slot_wanted next bytes place.moved ≡ next_slot left → IsPlainNext next
plain-next task bytes ts left place plain reaches (next.Own a) wants = own-short task bytes ts left place plain reaches a (sym wants)
plain-next task bytes ts left place plain reaches next wants = tt

-- the room, after a run
room-on : (at : ℕ) (xs ys begun : List ℕ) (place : ℕ) → (ys ≢ [] → (place ≡ at + length xs) × (place ≤ length begun))
    → with_bytes place ys (with_bytes at xs begun) ≡ with_bytes at (xs ++ ys) begun
room-on at xs [] begun place h = with-none place (with_bytes at xs begun) ∙ ap (λ ys. with_bytes at ys begun) (sym (append-nil xs))
room-on at xs (y ∷ ys) begun place h = let both = h (λ none. cc) in with-more at xs (y ∷ ys) begun place both.0 both.1

-- behind a list that got bytes the data bytes that the turn moved are those of the list and of what it got since
moved-since : {B : Type 0} (means : B → Means) (through : B → Step → B → Type 0) (first turn : TurnState) (w : Wire) (bytes : List ℕ)
    (made : List Transfer) (left : Plan) (before now : B) → turn.task ≡ first.task → IsPlainTask first.task → GetsBytes first.task
    → TurnBegins first w bytes made (means before) → UnderWay means through turn w bytes made left before now
    → turn.place.moved ≡ first.place.moved + length (bytes_got (means now).moves)
moved-since means through first turn w bytes made left before now same plain gets b u =
    let moves = (means now).moves in
    let plain-now : IsPlainTask turn.task = subst IsPlainTask (sym same) plain in
    let gets-now : GetsBytes turn.task = subst GetsBytes (sym same) gets in
    omega (
      arith,
      moved-got turn.task bytes (made ++ moves) left turn.place plain-now u.has_made.reaches gets-now,
      moved-got first.task bytes made b.left first.place plain b.had_made.reaches gets,
      length-bytes_got (made ++ moves),
      length-bytes_got made,
      ap (λ (xs : List ℕ). length xs) (bytes_got-append made moves),
      length-append (bytes_got made) (bytes_got moves),
    )

-- the room of a turn that gets bytes still has all that it got
pub still-holds : {B : Type 0} (means : B → Means) (through : B → Step → B → Type 0) (first turn : TurnState) (bytes begun room : List ℕ)
    (before now : B) (rest : ℕ) (w : Wire) (made : List Transfer) → IsPlainTask first.task → Going means through first turn bytes begun room before now rest
    → TurnBegins first w bytes made (means before) → GetsBytes first.task → HoldsBytes first made begun
    → HoldsBytes turn (made ++ (means now).moves) room
still-holds means through first turn bytes begun room before now rest w made plain going b gets held =
    let moves = (means now).moves in
    let u = going.under_way w made b in
    let place-is = moved-since means through first turn w bytes made u.0 before now (ap (λ (t : TurnState). t.task) going.same) plain gets b u.1 in
    let count = moved-got first.task bytes made b.left first.place plain b.had_made.reaches gets in
    let within : first.place.moved ≤ length begun =
    omega (arith, count, length-bytes_got made, ap (λ (xs : List ℕ). length xs) held, length-take first.place.moved begun) in
    ap (take turn.place.moved) going.stored
    ∙ take-with first.place.moved (bytes_got moves) begun turn.place.moved place-is within
    ∙ ap (λ xs. xs ++ bytes_got moves) held
    ∙ sym (bytes_got-append made moves)

some-long : {X : Type 0} (xs : List X) → xs ≢ [] → 1 ≤ length xs
some-long [] some = absurd (some refl)
some-long (x ∷ xs) some = omega arith

module _ {B : Type 0} (means : B → Means) (through : B → Step → B → Type 0) (first turn : TurnState) (bytes begun room : List ℕ) (before now : B) (rest : ℕ)
    (plain : IsPlainTask first.task) (short : length bytes ≤ WRITE_MAX)
    (begins : (w : Wire) × (made : List Transfer) × TurnBegins first w bytes made (means before))
    (going : Going means through first turn bytes begun room before now rest) (long-room : length room ≡ length begun) where
  left : Plan
  left = (going.under_way begins.0 begins.1 begins.2).0

  under : UnderWay means through turn begins.0 bytes begins.1 left before now
  unfolding left
  under = (going.under_way begins.0 begins.1 begins.2).1

  same-task : turn.task ≡ first.task
  same-task = ap (λ (t : TurnState). t.task) going.same

  plain-now : IsPlainTask turn.task
  plain-now = subst IsPlainTask (sym same-task) plain

  pub reached : (ts : List Transfer) × (left : Plan) × Reaches turn.task bytes ts left turn.place
  reached = (begins.1 ++ (means now).moves, left, under.has_made.reaches)

  -- the bus has room for as many asks as the slice has left
  pub asks-left : (means now).asks + rest ≤ ASK_MAX
  asks-left = omega (arith, going.asks, going.slice)

  pub plain-in : IsPlainTask turn.task
  plain-in = plain-now

  pub own-in : first.place.own ≤ ADDRESS_MAX → turn.place.own ≤ ADDRESS_MAX
  own-in h = omega (arith, under.has_made.own, begins.2.had_made.own)

  pub room-in : TurnHasRoom first.task (length begun) → TurnHasRoom turn.task (length room)
  room-in h = subst (λ (k : Task). TurnHasRoom k (length room)) (sym same-task) (subst (λ (n : ℕ). TurnHasRoom first.task n) (sym long-room) h)

  pub is-reached : IsReached turn.task turn.place
  is-reached = (bytes, begins.1 ++ (means now).moves, left, under.has_made.reaches)

  -- a run from here
  module _ (new : TurnState) (room' : List ℕ) (advance : Advance) (after : B) (runs : Runs means through turn bytes room new room' rest advance now after)
      (law : RunLaw) (wire_law : WireAppendsLaw) (has_room : TurnHasRoom first.task (length begun)) where
    on : (w : Wire) (made : List Transfer) (left : Plan) → UnderWay means through turn w bytes made left before now
        → (left' : Plan) × UnderWay means through new w bytes made left' before runs.between
        × TurnEndsRun means through (next_slot left') runs.run rest advance runs.between after
    on w made left u =
        let next = runs.goes (made ++ (means now).moves) left u.has_made.reaches in
        let N : TurnState → Type 0 = λ s. UnderWay means through s w bytes made next.0 before runs.between in
        (next.0, subst N (sym runs.moved) (goes-on means through turn w bytes made left next.0 before now runs.between runs.run law u next.1 runs.walk), next.2)

    more : (means runs.between).moves ≡ (means now).moves ++ runs.run
    more = ap (λ (m : Means). m.moves) (walk-went means through now runs.between runs.run runs.walk)

    -- the bytes that it got are behind those from before, within the room
    place-is : bytes_got runs.run ≢ [] → (turn.place.moved ≡ first.place.moved + length (bytes_got (means now).moves)) × (turn.place.moved ≤ length begun)
    place-is some =
        let so_far = begins.1 ++ (means now).moves in
        let next = runs.goes so_far left under.has_made.reaches in
        let r = law turn.task bytes so_far runs.run left next.0 turn.place under.has_made.reaches next.1 in
        let f = fares turn.task bytes (so_far ++ runs.run) next.0 (place_behind turn.task turn.place runs.run) plain-now r in
        let one_more : count_by is_got so_far + 1 ≤ most_gets turn.task =
        omega (arith, f.gets, sum_by-append (λ t. cond (is_got t) 1 0) so_far runs.run, length-gots runs.run, length-bytes_got runs.run, some-long (bytes_got runs.run) some) in
        let R : Task → Type 0 = λ task. TurnHasRoom task (length begun) in
        let within = room-left turn.task bytes so_far left turn.place plain-now under.has_made.reaches (length begun) (subst R (sym same-task) has_room) one_more in (
          moved-since means through first turn begins.0 bytes begins.1 left before now same-task plain
              (subst GetsBytes same-task (gets-bytes turn.task (omega (arith, one_more)))) begins.2 under,
          omega (arith, within),
        )

    gone : length runs.run ≤ rest → Going means through first new bytes begun room' before runs.between (rest - length runs.run)
    gone within =
        let moves = (means now).moves in
        let m = walk-went means through now runs.between runs.run runs.walk in
        let S : TurnState → Type 0 = λ s. s ≡ record first { place = s.place } in
        record {
          same = subst S (sym runs.moved) (ap (λ (s : TurnState). record s { place = place_behind turn.task turn.place runs.run }) going.same);
          asks = omega (arith, ap (λ (m : Means). m.asks) m, ap (λ (ts : List Transfer). length ts) more, length-append moves runs.run, going.asks);
          slice = omega (arith, within, ap (λ (ts : List Transfer). length ts) more, length-append moves runs.run, going.slice);
          wire = ap (λ (m : Means). m.wire) m ∙ ap (λ w. wire_after w runs.run) going.wire
              ∙ sym (wire_law (means before).wire moves runs.run) ∙ ap (wire_after (means before).wire) (sym more);
          stored = runs.stored ∙ ap (with_bytes turn.place.moved (bytes_got runs.run)) going.stored
              ∙ room-on first.place.moved (bytes_got moves) (bytes_got runs.run) begun turn.place.moved place-is
              ∙ ap (λ ys. with_bytes first.place.moved ys begun) (sym (bytes_got-append moves runs.run))
              ∙ ap (λ ts. with_bytes first.place.moved (bytes_got ts) begun) (sym more);
          under_way = λ w made b.
              let u = going.under_way w made b in
              let next = on w made u.0 u.1 in
              (next.0, next.1);
        }

  -- a run behind which the turn goes on at once
  module _ (new : TurnState) (room' : List ℕ) (n : ℕ) (after : B) (runs : Runs means through turn bytes room new room' rest (Made n) now after)
      (law : RunLaw) (wire_law : WireAppendsLaw) (has_room : TurnHasRoom first.task (length begun)) where
    ends : (after ≡ runs.between) × (n ≡ length runs.run) × (0 < n) × (n ≤ rest)
    ends = (on new room' (Made n) after runs law wire_law has_room begins.0 begins.1 left under).2

    pub made-few : n ≤ rest
    made-few = ends.3

    pub preserved : Going means through first new bytes begun room' before after (rest - n)
    preserved =
        let G : B → ℕ → Type 0 = λ b k. Going means through first new bytes begun room' before b (rest - k) in
        subst (λ b. G b n) (sym ends.0)
        (subst (G runs.between) (sym ends.1) (gone new room' (Made n) after runs law wire_law has_room (omega (arith, ends.1, ends.3))))

    pub smaller : rest - n < rest
    smaller = omega (arith, ends.2, ends.3)

  -- a run behind which it stops
  module _ (new : TurnState) (room' : List ℕ) (outcome : Outcome) (after : B) (runs : Runs means through turn bytes room new room' rest (Stopped outcome) now after)
      (law : RunLaw) (wire_law : WireAppendsLaw) (has_room : TurnHasRoom first.task (length begun)) where
    fewer : length runs.run < rest
    fewer = (on new room' (Stopped outcome) after runs law wire_law has_room begins.0 begins.1 left under).2.1

    far : Going means through first new bytes begun room' before runs.between (rest - length runs.run)
    far = gone new room' (Stopped outcome) after runs law wire_law has_room (omega (arith, fewer))

    stop : (slot : Option Slot) × Stops means through slot outcome runs.between after
    stop =
        let next = on new room' (Stopped outcome) after runs law wire_law has_room begins.0 begins.1 left under in
        (next_slot next.0, stops means through (next_slot next.0) outcome runs.between after next.2.0)

    pub same-turn : new ≡ record first { place = new.place }
    same-turn = far.same

    pub goes-stops : (w : Wire) (made : List Transfer) → TurnBegins first w bytes made (means before)
        → TurnGoes means through new w bytes made (means after).moves outcome before after
    goes-stops w made b =
        let u = going.under_way w made b in
        let next = on new room' (Stopped outcome) after runs law wire_law has_room w made u.0 u.1 in
        goes-so-far means through new w bytes made next.0 before runs.between after outcome next.1 (omega (arith, far.slice, fewer)) next.2.0

    pub wire-stops : (means after).wire ≡ wire_after (means before).wire (means after).moves
    wire-stops = stop.1.wire ∙ far.wire ∙ ap (wire_after (means before).wire) (sym stop.1.moves)

    pub got-stops : room' ≡ with_bytes first.place.moved (bytes_got (means after).moves) begun
    got-stops = far.stored ∙ ap (λ ts. with_bytes first.place.moved (bytes_got ts) begun) (sym stop.1.moves)

    pub holds-stops : (w : Wire) (made : List Transfer) → TurnBegins first w bytes made (means before) → GetsBytes first.task → HoldsBytes first made begun
        → HoldsBytes new (made ++ (means after).moves) room'
    holds-stops w made b gets held =
        let P : List Transfer → Type 0 = λ ts. HoldsBytes new (made ++ ts) room' in
        subst P (sym stop.1.moves) (still-holds means through first new bytes begun room' before runs.between (rest - length runs.run) w made plain far b gets held)

    pub begins-again : (w : Wire) (made : List Transfer) → TurnBegins first w bytes made (means before)
        → TurnBegins new w bytes (made ++ (means after).moves) (means after)
    begins-again w made b =
        let u = far.under_way w made b in
        let H : List Transfer → Type 0 = λ ts. HasMade new w bytes (made ++ ts) u.0 in
        record {
          left = u.0;
          had_made = subst H (sym stop.1.moves) u.1.has_made;
          bus = wire-stops ∙ ap (λ wire. wire_after wire (means after).moves) b.bus ∙ sym (wire_law w made (means after).moves);
        }

  -- its slice is full
  module _ (full : rest ≡ 0) where
    pub goes-full : (outcome : Outcome)
        → ((bytes : List ℕ) (ts : List Transfer) (left : Plan) → Reaches turn.task bytes ts left turn.place → outcome ≡ behind_slice_of (next_slot left))
        → (w : Wire) (made : List Transfer) → TurnBegins first w bytes made (means before)
        → TurnGoes means through turn w bytes made (means now).moves outcome before now
    goes-full outcome is w made b =
        let u = going.under_way w made b in
        goes-slice means through turn w bytes made u.0 before now outcome u.1 (omega (arith, going.slice, full))
        (is bytes (made ++ (means now).moves) u.0 u.1.has_made.reaches)

  pub holds-full : (w : Wire) (made : List Transfer) → TurnBegins first w bytes made (means before) → GetsBytes first.task → HoldsBytes first made begun
      → HoldsBytes turn (made ++ (means now).moves) room
  holds-full w made b gets held = still-holds means through first turn bytes begun room before now rest w made plain going b gets held

  pub begins-full : WireAppendsLaw → (w : Wire) (made : List Transfer) → TurnBegins first w bytes made (means before)
      → TurnBegins turn w bytes (made ++ (means now).moves) (means now)
  begins-full wire_law w made b =
      let u = going.under_way w made b in
      record {
        left = u.0;
        had_made = u.1.has_made;
        bus = going.wire ∙ ap (λ wire. wire_after wire (means now).moves) b.bus ∙ sym (wire_law w made (means now).moves);
      }
