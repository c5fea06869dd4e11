-- How the plays of a script and of its lift end, and the law.
use Rattle.std.proofs.Common.{◌≡◌, ℕ, max, List, [], ◌∷◌, ◌++◌, Option, Some, None, inl, inr, refl, sym, ap, subst, ◌∙◌, arith}
use Rattle.std.proofs.lemmas.List.{map-append, append-nil}
use Rattle.vx_script.specs.declared.Cause.TheVariants as cause
use Rattle.vx_script.specs.Command.{Command, At}
use Rattle.vx_script.specs.Laws.{ReadingLaw, TimedLaw}
use Rattle.vx_lift.specs.Lifted.{lifted}
use Rattle.vx_lift.specs.LiftedLines.{LiftedLinesLaw}
use Rattle.vx_setup.specs.Script.{Step, script}
use Rattle.vx_setup.specs.Rack.{SpareShown}
use Rattle.vx_run.specs.Item.{Item, Fault, events}
use Rattle.vx_player.specs.Stage.{Stage, beginning, refusal}
use Rattle.vx_player.specs.Play.{Plays, IsPlayerRefused, EndsBehind, IsPlay}
use Rattle.vx_play.specs.LiftLaw.{PlaysTo, LiftLaw}
use Rattle.vx_play.proofs.Spreading.{spread, reached, spread_up_to, spread-front, spread-parts}
use Rattle.vx_play.proofs.Timing.{commands_of, IsSpread, script-spread}
use Rattle.vx_play.proofs.Moving.{stage_at, same-refusal, refused-other, at-kept, at_item, at-goes}
use Rattle.vx_play.proofs.Running.{Runs, plays-run, run-plays, runs-more, RunsLast, runs-last, events-more}
use Rattle.vx_play.proofs.Following.{forth, back}

-- ---- steps by their commands

-- steps, one of this command among them, and those in front of it of these commands
record PartedAt (all : List Step) (before : List Command) (command : Command) : Type 0 where
  front : List Step
  step : Step
  later : List Step
  parts : all ≡ front ++ step ∷ later
  before_is : commands_of front ≡ before
  said : step.command ≡ command

-- one more step in front of such
one-more : (step : Step) (b : Command) (all : List Step) (before : List Command) (command : Command) → step.command ≡ b → PartedAt all before command
    → PartedAt (step ∷ all) (b ∷ before) command
one-more step b all before command first more = record {
  front = step ∷ more.front;
  step = more.step;
  later = more.later;
  parts = ap (λ steps. step ∷ steps) more.parts;
  before_is = ap (λ c. c ∷ commands_of more.front) first ∙ ap (λ cs. b ∷ cs) more.before_is;
  said = more.said;
}

-- steps are parted where their commands are
parted-at : (all : List Step) (before : List Command) (command : Command) (behind : List Command) → commands_of all ≡ before ++ command ∷ behind → PartedAt all before command
parted-at [] [] command behind is = cc
parted-at [] (b ∷ before) command behind is = cc
parted-at (step ∷ all) [] command behind is = record { front = []; step = step; later = all; parts = refl; before_is = refl; said = cc }
parted-at (step ∷ all) (b ∷ before) command behind is =
    let first : step.command ≡ b = cc in
    let rest : commands_of all ≡ before ++ command ∷ behind = cc in
    one-more step b all before command first (parted-at all before command behind rest)

-- the commands of steps behind others
commands-behind : (front : List Step) (step : Step) (later : List Step) → commands_of (front ++ step ∷ later) ≡ commands_of front ++ step.command ∷ commands_of later
commands-behind front step later = map-append (λ s. s.command) front (step ∷ later)

-- ---- how plays end

-- every step was taken, and no line is outside the grammar
plays-whole : (text : List ℕ) (rack : List SpareShown) (items : List Item) (end : Stage) → Runs (beginning rack) (commands_of (script text).steps) items end → (script text).bad ≡ None
    → IsPlay text rack items None
plays-whole text rack items end run none_bad = record {
  steps = (script text).steps;
  end = end;
  played = record { later = []; front = sym (append-nil (script text).steps); played = run-plays (beginning rack) (script text).steps items end run };
  ends = record { all = refl; none_bad = none_bad };
}

-- every step was taken, and the line behind them is outside the grammar
plays-outside : (text : List ℕ) (rack : List SpareShown) (items : List Item) (end : Stage) (line : ℕ) → Runs (beginning rack) (commands_of (script text).steps) items end
    → (script text).bad ≡ Some line → IsPlay text rack items (Some (record { line = line; cause = cause.Form }))
plays-outside text rack items end line run bad = record {
  steps = (script text).steps;
  end = end;
  played = record { later = []; front = sym (append-nil (script text).steps); played = run-plays (beginning rack) (script text).steps items end run };
  ends = inr (record { all = refl; bad = bad; form = refl });
}

-- so a run of all commands is a play, whatever stands behind the steps
plays-all : (text : List ℕ) (rack : List SpareShown) (items : List Item) (end : Stage) → Runs (beginning rack) (commands_of (script text).steps) items end
    → PlaysTo text rack (events items)
plays-all text rack items end run = by (script text).bad refl where
  by : (bad : Option ℕ) → (script text).bad ≡ bad → PlaysTo text rack (events items)
  by None is = (items, None, plays-whole text rack items end run is, refl)
  by (Some line) is = (items, Some (record { line = line; cause = cause.Form }), plays-outside text rack items end line run is, refl)

-- the step behind these is refused
plays-refused : (text : List ℕ) (rack : List SpareShown) (before : List Command) (command : Command) (items : List Item) (end : Stage) (fault : Fault) → (p : PartedAt (script text).steps before command)
    → Runs (beginning rack) before items end → refusal end command ≡ Some fault.cause → IsPlay text rack items (Some (record { line = p.step.line; cause = fault.cause }))
plays-refused text rack before command items end fault p run refused = record {
  steps = p.front;
  end = end;
  played = record {
    later = p.step ∷ p.later;
    front = p.parts;
    played = run-plays (beginning rack) p.front items end (subst (λ cs. Runs (beginning rack) cs items end) (sym p.before_is) run);
  };
  ends = inl (record { step = p.step; later = p.later; next = p.parts; line = refl; refused = ap (refusal end) p.said ∙ refused });
}

-- two scripts, of which the second has the steps of the first, spread behind moments
module _ (text lift : List ℕ) (rack : List SpareShown) (spreads : IsSpread 0 (script text) (script lift)) where
  -- ---- from the first to the second

  -- all steps were taken
  forth-whole : (items : List Item) (end : Stage) → Runs (beginning rack) (commands_of (script text).steps) items end → PlaysTo lift rack (events items)
  forth-whole items end run =
      let found = forth (beginning rack) end 0 (commands_of (script text).steps) items (omega arith) run in
      let runs = subst (λ cs. Runs (beginning rack) cs found.items (stage_at end found.moment)) (sym spreads.steps) found.runs in
      (found.items, None, plays-whole lift rack found.items (stage_at end found.moment) runs spreads.none_bad, found.same)

  -- a step was refused: so is its command behind its `at`
  forth-refused : (steps : List Step) (items : List Item) (end : Stage) (fault : Fault) → Plays (beginning rack) steps items end → IsPlayerRefused text steps end fault
      → PlaysTo lift rack (events items)
  forth-refused steps items end fault played r =
      let commands = commands_of steps in
      let found = forth (beginning rack) end 0 commands items (omega arith) (plays-run (beginning rack) steps items end played) in
      let later = reached 0 commands in
      let moment = max found.moment later in
      let item = at_item later moment in
      let takes = at-goes (stage_at end found.moment) later moment refl in
      let run = runs-more (beginning rack) (stage_at end found.moment) (stage_at end moment) (spread 0 commands) found.items (At later) item found.runs refl takes in
      let other = refused-other end r.step.command fault.cause r.refused in
      let parts = parted-at (script lift).steps (spread_up_to 0 commands) r.step.command (spread later (commands_of r.later))
      (spreads.steps ∙ ap (λ all. spread 0 (commands_of all)) r.next ∙ ap (spread 0) (commands-behind steps r.step r.later)
      ∙ spread-front 0 commands r.step.command (commands_of r.later) other) in (
        found.items ++ item ∷ [],
        Some (record { line = parts.step.line; cause = fault.cause }),
        plays-refused lift rack (spread_up_to 0 commands) r.step.command (found.items ++ item ∷ []) (stage_at end moment) fault parts run
            (same-refusal end (stage_at end moment) moment r.step.command refl ∙ r.refused),
        events-more found.items item refl ∙ found.same,
      )

  -- a play of the first script has one of the second: its last step was refused, or all were taken
  forth-play : (items : List Item) (fault : Option Fault) → IsPlay text rack items fault → PlaysTo lift rack (events items)
  forth-play items fault play = by fault play.ends where
    run : Plays (beginning rack) play.steps items play.end
    run = play.played.played

    whole : (script text).steps ≡ play.steps → PlaysTo lift rack (events items)
    whole all = forth-whole items play.end (subst (λ steps. Runs (beginning rack) (commands_of steps) items play.end) (sym all) (plays-run (beginning rack) play.steps items play.end run))

    by : (fault : Option Fault) → EndsBehind text play.steps play.end fault → PlaysTo lift rack (events items)
    by None ends = whole ends.all
    by (Some f) (inl refused) = forth-refused play.steps items play.end f run refused
    by (Some f) (inr outside) = whole outside.all

  -- ---- and back

  -- all steps were taken
  back-whole : (items : List Item) (last : Stage) → Runs (beginning rack) (commands_of (script lift).steps) items last → PlaysTo text rack (events items)
  back-whole items last run =
      let found = back (beginning rack) last 0 (commands_of (script text).steps) items (omega arith) (subst (λ cs. Runs (beginning rack) cs items last) spreads.steps run) in
      let plays = plays-all text rack found.items found.end found.runs in
      (plays.0, plays.1, plays.2, plays.3 ∙ found.same)

  -- a command was refused behind these and an `at`
  back-front : (front later : List Command) (command : Command) (items : List Item) (last : Stage) (fault : Fault) → commands_of (script text).steps ≡ front ++ command ∷ later
      → RunsLast (beginning rack) (spread 0 front) (At (reached 0 front)) items last → refusal last command ≡ Some fault.cause → PlaysTo text rack (events items)
  back-front front later command items last fault parts cut refused =
      let moved = at-kept cut.mid last cut.item (reached 0 front) cut.said cut.takes in
      let found = back (beginning rack) cut.mid 0 front cut.front (omega arith) cut.runs in
      let step = parted-at (script text).steps front command later parts in
      let still : refusal cut.mid command ≡ Some fault.cause = sym (same-refusal cut.mid last (max cut.mid.moment (reached 0 front)) command moved.next_is) ∙ refused in (
        found.items,
        Some (record { line = step.step.line; cause = fault.cause }),
        plays-refused text rack front command found.items found.end fault step found.runs (sym (same-refusal found.end cut.mid found.moment command found.last_is) ∙ still),
        found.same ∙ sym (ap events cut.items_are ∙ events-more cut.front cut.item moved.none),
      )

  -- a step was refused, which is no `at`
  back-refused : (steps : List Step) (items : List Item) (last : Stage) (fault : Fault) → Plays (beginning rack) steps items last → IsPlayerRefused lift steps last fault
      → PlaysTo text rack (events items)
  back-refused steps items last fault played r =
      let command = r.step.command in
      let other = refused-other last command fault.cause r.refused in
      let is = sym (commands-behind steps r.step r.later) ∙ ap commands_of (sym r.next) ∙ spreads.steps in
      let parts = spread-parts 0 (commands_of (script text).steps) (commands_of steps) command (commands_of r.later) other is in
      let run = subst (λ cs. Runs (beginning rack) cs items last) parts.before_is (plays-run (beginning rack) steps items last played) in
      back-front parts.front parts.later command items last fault parts.parts (runs-last (beginning rack) last (spread 0 parts.front) (At (reached 0 parts.front)) items run) r.refused

  -- a play of the second script has one of the first
  back-play : (items : List Item) (fault : Option Fault) → IsPlay lift rack items fault → PlaysTo text rack (events items)
  back-play items fault play = by fault play.ends where
    run : Plays (beginning rack) play.steps items play.end
    run = play.played.played

    whole : (script lift).steps ≡ play.steps → PlaysTo text rack (events items)
    whole all = back-whole items play.end (subst (λ steps. Runs (beginning rack) (commands_of steps) items play.end) (sym all) (plays-run (beginning rack) play.steps items play.end run))

    by : (fault : Option Fault) → EndsBehind lift play.steps play.end fault → PlaysTo text rack (events items)
    by None ends = whole ends.all
    by (Some f) (inl refused) = back-refused play.steps items play.end f run refused
    by (Some f) (inr outside) = whole outside.all

-- the law of lifts
pub lifts : LiftedLinesLaw → ReadingLaw → TimedLaw → LiftLaw
lifts lines_are reads times text rack one within =
    let spreads = script-spread lines_are reads times text one in
    (λ items fault play. forth-play text (lifted text) rack spreads items fault play, λ items fault play. back-play text (lifted text) rack spreads items fault play)
