use Rattle.std.proofs.Common.{◌≡◌, drop, map}
use Rattle.vx_policy.specs.Names.{names_with_all}
use Rattle.vx_startup.proofs.words.add_texts.Given as goal

abbrev pub invariant-loop-text : goal.invariant-loop-text
invariant-loop-text l =
    names_with_all l.names (map (λ t. t.now) (drop l.text-index l.texts)) ≡ names_with_all l.initial.names (map (λ t. t.now) l.texts)
