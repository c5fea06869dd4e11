-- Steps of setting a bench up line by line.
use Rattle.std.proofs.Common.{◌≡◌, ℕ, ◌+◌, List, [], ◌∷◌, ◌++◌, None, refl, ap, sym, subst, ◌∙◌, inl, inr, ◌⊎◌, append-nil, Option, Some, Result, Ok, Err}
use Rattle.vx_script.specs.declared.Cause.{Cause}
use Rattle.vx_script.specs.declared.Step.{Step as LineStep}
use Rattle.vx_script.specs.declared.Version.TheVariants.{One}
use Rattle.vx_script.specs.Command.{step_shown}
use Rattle.vx_script.specs.Grammar.{Reading, reading}
use Rattle.vx_script.specs.Reads.{Reads}
use Rattle.vx_setup.specs.declared.stops.Refusal.{Refusal}
use Rattle.vx_setup.specs.declared.stops.Refusal.TheVariants as stop
use Rattle.vx_text.specs.TextLines.{lines}
use Rattle.vx_setup.specs.Script.{Step, commands_read, plain_script, script_from, behind_steps}
use Rattle.vx_setup.specs.SettingUp.{BenchState, SetupTakes, SetsUp, IsSetUp, IsStopped, IsSetupRefused, IsSetupOutside, LacksMemory}
use Rattle.vx_setup.specs.LineSet.{TakesOrStops, IsSkipped, IsTaken, IsSetupBad, IsTurnedDown, SetupEndsLine, SetupUnderWay}
use Rattle.vx_setup.proofs.Laws.Scripts.{behind-more, next-line, doing}

-- a line's step was taken, or is refused
pub line-ended : (said : Reading) (found : Option LineStep) (step : LineStep) (old new : BenchState) (ended : Result Unit Refusal) → Reads said (Ok found)
    → found ≡ Some step → TakesOrStops old (step_shown step) new ended → SetupEndsLine said old new ended
line-ended said found step old new (Ok done) reads some took = inr (record { command = step_shown step; said_is = doing said found step reads some; takes = took })
line-ended said found step old new (Err (stop.Refused why)) reads some took =
    inr (record { command = step_shown step; said_is = doing said found step reads some; refused = took.0; bus_is = took.1; rack_is = took.2 })
line-ended said found step old new (Err stop.NoMemory) reads some took = took

-- one more step
sets-more : (before mid after : BenchState) (steps : List Step) (step : Step) → SetsUp before steps mid → SetupTakes mid step.command after
    → SetsUp before (steps ++ step ∷ []) after
sets-more before mid after [] step set_up takes = (after, subst (λ (b : BenchState). SetupTakes b step.command after) set_up takes, refl)
sets-more before mid after (s ∷ steps) step (next, took, rest) takes = (next, took, sets-more next mid after steps step rest takes)

-- a bench begins
pub begun : (text : List ℕ) (before : BenchState) → SetupUnderWay text before text 0 before
begun text before = record { steps = []; is_front = refl; set_up = refl }

-- it goes on behind a line
pub goes-on : (text : List ℕ) (before : BenchState) (rest line behind : List ℕ) (count : ℕ) (now next : BenchState) → SetupUnderWay text before rest count now
    → lines rest ≡ line ∷ lines behind → IsSkipped (reading line) now next ⊎ IsTaken (reading line) now next → SetupUnderWay text before behind (count + 1) next
goes-on text before rest line behind count now next u cut (inl k) = record {
  steps = u.steps;
  is_front = next-line One (plain_script text) rest line behind count u.steps (Some []) u.is_front cut (ap commands_read k.skipped);
  set_up = subst (SetsUp before u.steps) (sym k.same) u.set_up;
}
goes-on text before rest line behind count now next u cut (inr k) =
    let step : Step = record { line = count + 1; command = k.command } in
    record {
      steps = u.steps ++ step ∷ [];
      is_front = next-line One (plain_script text) rest line behind count u.steps (Some (k.command ∷ [])) u.is_front cut (ap commands_read k.said_is)
          ∙ behind-more u.steps (step ∷ []) (script_from One (count + 1 + 1) (lines behind));
      set_up = sets-more before now next u.steps step u.set_up k.takes;
    }

-- at the end of the text it is set up
pub whole : (text : List ℕ) (before : BenchState) (rest : List ℕ) (count : ℕ) (now : BenchState) → SetupUnderWay text before rest count now → rest ≡ []
    → IsSetUp text before now
whole text before rest count now u at_end =
    let all : plain_script text ≡ behind_steps u.steps (record { steps = []; bad = None }) =
    u.is_front ∙ ap (λ xs. behind_steps u.steps (script_from One (count + 1) (lines xs))) at_end in
    let steps : (plain_script text).steps ≡ u.steps = ap (λ s. s.steps) all ∙ append-nil u.steps in
    record {
      none_bad = ap (λ s. s.bad) all;
      set_up = subst (λ (ss : List Step). SetsUp before ss now) (sym steps) u.set_up;
    }

-- at a line that is refused it stops
pub stopped : (text : List ℕ) (before : BenchState) (rest line behind : List ℕ) (count : ℕ) (now after : BenchState) (why : Cause)
    → SetupUnderWay text before rest count now → lines rest ≡ line ∷ lines behind
    → IsSetupBad (reading line) now after why ⊎ IsTurnedDown (reading line) now after why → IsStopped text before after (count + 1) why
stopped text before rest line behind count now after why u cut how =
    record { steps = u.steps; end = now; set_up = u.set_up; stops = by how }
  where
    by : IsSetupBad (reading line) now after why ⊎ IsTurnedDown (reading line) now after why
        → IsSetupRefused text u.steps now after (count + 1) why ⊎ IsSetupOutside text u.steps now after (count + 1) why
    by (inl k) =
        let all = next-line One (plain_script text) rest line behind count u.steps None u.is_front cut (ap commands_read k.outside) in
        inr (record { all = ap (λ s. s.steps) all ∙ append-nil u.steps; bad = ap (λ s. s.bad) all; form = k.form; same = k.same })
    by (inr k) =
        let all = next-line One (plain_script text) rest line behind count u.steps (Some (k.command ∷ [])) u.is_front cut (ap commands_read k.said_is) in
        inl (record {
          step = record { line = count + 1; command = k.command };
          later = (script_from One (count + 1 + 1) (lines behind)).steps;
          next = ap (λ s. s.steps) all;
          line_is = refl;
          refused = k.refused;
          bus_is = k.bus_is;
          rack_is = k.rack_is;
        })

-- and where memory runs out at a line, what it left is as it was in front of that line
pub lacking : (text : List ℕ) (before : BenchState) (rest : List ℕ) (count : ℕ) (now after : BenchState) → SetupUnderWay text before rest count now
    → after ≡ now → LacksMemory text before after
lacking text before rest count now after u same = record {
  steps = u.steps;
  later = (script_from One (count + 1) (lines rest)).steps;
  front = ap (λ s. s.steps) u.is_front;
  set_up = subst (SetsUp before u.steps) (sym same) u.set_up;
}

-- or before any line
pub lacking-all : (text : List ℕ) (before : BenchState) → LacksMemory text before before
lacking-all text before = record { steps = []; later = (plain_script text).steps; front = refl; set_up = refl }
