-- A run of a script's commands, and one of what they are spread to, side by side. Behind each command other than `at` both stand at the
-- same stage; between such commands the one takes its `at`s while the other waits, so that they differ in the moment alone.
use Rattle.std.proofs.Common.{◌≡◌, ℕ, max, ◌≤◌, List, [], ◌∷◌, ◌++◌, refl, sym, ap, subst, ◌∙◌, arith}
use Rattle.vx_script.specs.Command.{Command, At}
use Rattle.vx_flow.specs.Event.{Event}
use Rattle.vx_run.specs.Item.{Item, events}
use Rattle.vx_player.specs.Stage.{Stage}
use Rattle.vx_player.specs.Play.{PlayerTakes}
use Rattle.vx_play.proofs.Spreading.{spread}
use Rattle.vx_play.proofs.Moving.{stage_at, other-kept, at-kept, at_item, at-goes}
use Rattle.vx_play.proofs.Running.{Runs}

-- a run of these commands to a stage, but for the moment, that makes these events
pub record FindsSpread (s : Stage) (commands : List Command) (end : Stage) (all : List Event) : Type 0 where
  pub items : List Item
  pub moment : ℕ
  pub runs : Runs s commands items (stage_at end moment)
  pub same : events items ≡ all

-- a run of these commands that makes these events, to a stage that is this one, but for the moment
pub record FindsPlain (s : Stage) (commands : List Command) (last : Stage) (all : List Event) : Type 0 where
  pub items : List Item
  pub end : Stage
  pub moment : ℕ
  pub runs : Runs s commands items end
  pub last_is : last ≡ stage_at end moment
  pub same : events items ≡ all

-- a moment that isn't above another is raised to it
raised : (k m : ℕ) → k ≤ m → m ≡ max k m
raised k m le = omega arith

-- an item without events in front of others adds none
events-behind : (item : Item) (items : List Item) → item.group ≡ [] → events (item ∷ items) ≡ events items
events-behind item items none = ap (λ es. es ++ events items) none

-- ---- from a script to its lift

-- behind an `at` the other run has waited
at-forth : (s : Stage) (k later : ℕ) (commands : List Command) (item : Item) (items : List Item) (end : Stage) → item.group ≡ []
    → FindsSpread (stage_at s k) (spread (max s.moment later) commands) end (events items) → FindsSpread (stage_at s k) (spread (max s.moment later) commands) end (events (item ∷ items))
at-forth s k later commands item items end none more =
    record { items = more.items; moment = more.moment; runs = more.runs; same = more.same ∙ sym (events-behind item items none) }

-- at another command it takes an `at` first
other-forth : (s next : Stage) (k : ℕ) (command : Command) (commands : List Command) (item : Item) (items : List Item) (end : Stage) → k ≤ s.moment
    → item.command ≡ command → PlayerTakes s item next → next.moment ≡ s.moment → FindsSpread next (spread next.moment commands) end (events items)
    → FindsSpread (stage_at s k) (At s.moment ∷ command ∷ spread s.moment commands) end (events (item ∷ items))
other-forth s next k command commands item items end le said takes stays found =
    let more = subst (λ m. FindsSpread next (spread m commands) end (events items)) stays found in
    record {
      items = at_item s.moment s.moment ∷ item ∷ more.items;
      moment = more.moment;
      runs = (refl, s, at-goes (stage_at s k) s.moment s.moment (raised k s.moment le), (said, next, takes, more.runs));
      same = ap (λ es. item.group ++ es) more.same;
    }

-- each run of a script's commands has one of what they are spread to, with the same events
pub forth : (s end : Stage) (k : ℕ) (commands : List Command) (items : List Item) → k ≤ s.moment → Runs s commands items end
    → FindsSpread (stage_at s k) (spread s.moment commands) end (events items)
forth s end k [] [] le run = record { items = []; moment = k; runs = ap (λ t. stage_at t k) run; same = refl }
forth s end k [] (item ∷ items) le run = absurd run
forth s end k (command ∷ commands) [] le run = absurd run
forth s end k (At later ∷ commands) (item ∷ items) le (said, next, takes, rest) =
    let moved = at-kept s next item later said takes in
    let behind = subst (λ t. Runs t commands items end) moved.next_is rest in
    at-forth s k later commands item items end moved.none (forth (stage_at s (max s.moment later)) end k commands items (omega arith) behind)
forth s end k (command ∷ commands) (item ∷ items) le (said, next, takes, rest) =
    other-forth s next k command commands item items end le said takes (other-kept s next item command said refl takes)
    (forth next end next.moment commands items (omega arith) rest)

-- ---- and back

-- an `at` is taken while the other run waits
at-back : (s : Stage) (later : ℕ) (commands : List Command) (last : Stage) (all : List Event) → FindsPlain (stage_at s (max s.moment later)) commands last all
    → FindsPlain s (At later ∷ commands) last all
at-back s later commands last all more = record {
  items = at_item later (max s.moment later) ∷ more.items;
  end = more.end;
  moment = more.moment;
  runs = (refl, stage_at s (max s.moment later), at-goes s later (max s.moment later) refl, more.runs);
  last_is = more.last_is;
  same = more.same;
}

-- the other run's `at` takes it to the same stage
there : (s mid : Stage) (k : ℕ) → k ≤ s.moment → mid ≡ stage_at s (max k s.moment) → mid ≡ s
there s mid k le is = is ∙ ap (stage_at s) (sym (raised k s.moment le))

-- behind an `at` the other run's command is taken from the same stage
other-back : (s mid next last : Stage) (k : ℕ) (command : Command) (commands : List Command) (ahead item : Item) (items : List Item) → k ≤ s.moment
    → ahead.command ≡ At s.moment → PlayerTakes (stage_at s k) ahead mid → item.command ≡ command → PlayerTakes s item next
    → FindsPlain next commands last (events items) → FindsPlain s (command ∷ commands) last (events (ahead ∷ item ∷ items))
other-back s mid next last k command commands ahead item items le first goes said takes more =
    let moved = at-kept (stage_at s k) mid ahead s.moment first goes in
    record {
      items = item ∷ more.items;
      end = more.end;
      moment = more.moment;
      runs = (said, next, takes, more.runs);
      last_is = more.last_is;
      same = ap (λ es. item.group ++ es) more.same ∙ sym (events-behind ahead (item ∷ items) moved.none);
    }

-- each run of what a script's commands are spread to has one of the commands, with the same events
pub back : (s last : Stage) (k : ℕ) (commands : List Command) (items : List Item) → k ≤ s.moment → Runs (stage_at s k) (spread s.moment commands) items last
    → FindsPlain s commands last (events items)
back s last k [] [] le run = record { items = []; end = s; moment = k; runs = refl; last_is = run; same = refl }
back s last k [] (item ∷ items) le run = absurd run
back s last k (At later ∷ commands) items le run =
    at-back s later commands last (events items) (back (stage_at s (max s.moment later)) last k commands items (omega arith) run)
back s last k (command ∷ commands) [] le run = absurd run
back s last k (command ∷ commands) (ahead ∷ []) le (first, mid, goes, rest) = absurd rest
back s last k (command ∷ commands) (ahead ∷ item ∷ items) le (first, mid, goes, (said, next, takes, rest)) =
    let moved = at-kept (stage_at s k) mid ahead s.moment first goes in
    let took = subst (λ t. PlayerTakes t item next) (there s mid k le moved.next_is) takes in
    let stays = other-kept s next item command said refl took in
    let behind = subst (λ m. Runs next (spread m commands) items last) (sym stays) rest in
    other-back s mid next last k command commands ahead item items le first goes said took (back next last next.moment commands items (omega arith) behind)
