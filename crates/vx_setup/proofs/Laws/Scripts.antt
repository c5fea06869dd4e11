-- The steps of a script, line by line.
use Rattle.std.proofs.Common.{◌≡◌, ℕ, ◌+◌, List, ◌∷◌, ◌++◌, Option, Some, Ok, sym, ap, subst, ◌∙◌, append_assoc}
use Rattle.vx_script.specs.declared.Step.{Step as LineStep}
use Rattle.vx_script.specs.declared.Version.{Version}
use Rattle.vx_script.specs.Command.{Command, step_shown}
use Rattle.vx_script.specs.Grammar.{Reading, Skipped, Does, Outside}
use Rattle.vx_script.specs.Reads.{Reads}
use Rattle.vx_text.specs.TextLines.{lines}
use Rattle.vx_setup.specs.Script.{Step, Script, commands, script_by, script_from, behind_steps}

-- a script with steps in front of the rest's
abbrev pub onto : List Step → Script → Script
onto steps rest = record { steps = steps ++ rest.steps; bad = rest.bad }

-- steps more in front of the rest
pub behind-more : (steps more : List Step) (rest : Script) → behind_steps steps (onto more rest) ≡ behind_steps (steps ++ more) rest
behind-more steps more rest = ap (λ (all : List Step). let s : Script = record { steps = all; bad = rest.bad } in s) (sym (append_assoc steps more rest.steps))

-- what stands in front of the next line is its steps, and the next line
pub next-line : (version : Version) (all : Script) (rest line behind : List ℕ) (count : ℕ) (steps : List Step) (found : Option (List Command))
    → all ≡ behind_steps steps (script_from version (count + 1) (lines rest)) → lines rest ≡ line ∷ lines behind → commands version line ≡ found
    → all ≡ behind_steps steps (script_by (count + 1) found (script_from version (count + 1 + 1) (lines behind)))
next-line version all rest line behind count steps found front cut says =
    front ∙ ap (λ ls. behind_steps steps (script_from version (count + 1) ls)) cut
    ∙ ap (λ r. behind_steps steps (script_by (count + 1) r (script_from version (count + 1 + 1) (lines behind)))) says

-- a line of which a step was read says that step's command
says : (said : Reading) (step : LineStep) → Reads said (Ok (Some step)) → said ≡ Does (step_shown step)
says Skipped step reads = absurd reads
says (Does command) step reads = ap Does (sym reads)
says Outside step reads = absurd reads

pub doing : (said : Reading) (found : Option LineStep) (step : LineStep) → Reads said (Ok found) → found ≡ Some step → said ≡ Does (step_shown step)
doing said found step reads some = says said step (subst (λ (o : Option LineStep). Reads said (Ok o)) some reads)
