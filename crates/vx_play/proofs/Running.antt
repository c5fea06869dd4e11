-- Runs: the commands of a play, without the numbers of their lines.
use Rattle.std.proofs.Common.{◌≡◌, List, [], ◌∷◌, ◌++◌, refl, sym, ap, subst, ◌∙◌}
use Rattle.std.proofs.lemmas.List.{append-nil}
use Rattle.std.proofs.lemmas.Grind.{flat_map-append}
use Rattle.vx_script.specs.Command.{Command}
use Rattle.vx_setup.specs.Script.{Step}
use Rattle.vx_run.specs.Item.{Item, events}
use Rattle.vx_player.specs.Stage.{Stage}
use Rattle.vx_player.specs.Play.{PlayerTakes, Plays}
use Rattle.vx_play.proofs.Timing.{commands_of}

-- these commands, one item each, take a play from one stage to another
abbrev pub Runs : Stage → List Command → List Item → Stage → Type 0
Runs s [] [] end = end ≡ s
Runs s (command ∷ commands) (item ∷ items) end = (item.command ≡ command) × (next : Stage) × PlayerTakes s item next × Runs next commands items end
Runs s [] (item ∷ items) end = ⊥
Runs s (command ∷ commands) [] end = ⊥

-- steps are played just as their commands run
pub plays-run : (s : Stage) (steps : List Step) (items : List Item) (end : Stage) → Plays s steps items end → Runs s (commands_of steps) items end
plays-run s [] [] end played = played
plays-run s (step ∷ steps) (item ∷ items) end (said, next, takes, rest) = (said, next, takes, plays-run next steps items end rest)
plays-run s [] (item ∷ items) end played = absurd played
plays-run s (step ∷ steps) [] end played = absurd played

-- and the other way round
pub run-plays : (s : Stage) (steps : List Step) (items : List Item) (end : Stage) → Runs s (commands_of steps) items end → Plays s steps items end
run-plays s [] [] end run = run
run-plays s (step ∷ steps) (item ∷ items) end (said, next, takes, rest) = (said, next, takes, run-plays next steps items end rest)
run-plays s [] (item ∷ items) end run = absurd run
run-plays s (step ∷ steps) [] end run = absurd run

-- a run and one command more
pub runs-more : (s mid end : Stage) (commands : List Command) (items : List Item) (command : Command) (item : Item) → Runs s commands items mid → item.command ≡ command → PlayerTakes mid item end
    → Runs s (commands ++ command ∷ []) (items ++ item ∷ []) end
runs-more s mid end [] [] command item run said takes = (said, end, subst (λ t. PlayerTakes t item end) run takes, refl)
runs-more s mid end (c ∷ commands) (i ∷ items) command item (first, next, took, rest) said takes =
    (first, next, took, runs-more next mid end commands items command item rest said takes)
runs-more s mid end [] (i ∷ items) command item run said takes = absurd run
runs-more s mid end (c ∷ commands) [] command item run said takes = absurd run

-- a run without its last command
pub record RunsLast (s : Stage) (commands : List Command) (command : Command) (items : List Item) (end : Stage) : Type 0 where
  pub front : List Item
  pub mid : Stage
  pub item : Item
  pub items_are : items ≡ front ++ item ∷ []
  pub runs : Runs s commands front mid
  pub said : item.command ≡ command
  pub takes : PlayerTakes mid item end

-- each run of commands and one more has such a front
pub runs-last : (s end : Stage) (commands : List Command) (command : Command) (items : List Item) → Runs s (commands ++ command ∷ []) items end → RunsLast s commands command items end
runs-last s end [] command [] run = absurd run
runs-last s end [] command (i ∷ []) (said, next, takes, last) =
    record { front = []; mid = s; item = i; items_are = refl; runs = refl; said = said; takes = subst (λ t. PlayerTakes s i t) (sym last) takes }
runs-last s end [] command (i ∷ j ∷ items) (said, next, takes, rest) = absurd rest
runs-last s end (c ∷ commands) command [] run = absurd run
runs-last s end (c ∷ commands) command (i ∷ items) (said, next, takes, rest) =
    let more = runs-last next end commands command items rest in
    record {
      front = i ∷ more.front;
      mid = more.mid;
      item = more.item;
      items_are = ap (λ is. i ∷ is) more.items_are;
      runs = (said, next, takes, more.runs);
      said = more.said;
      takes = more.takes;
    }

-- an item without events behind others adds none
pub events-more : (items : List Item) (item : Item) → item.group ≡ [] → events (items ++ item ∷ []) ≡ events items
events-more items item none =
    flat_map-append (λ i. i.group) items (item ∷ [])
    ∙ ap (λ es. events items ++ (es ++ [])) none
    ∙ append-nil (events items)
