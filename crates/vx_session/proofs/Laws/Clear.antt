-- Where each connection of a pass that is alone at its gate went down again there is room for one more.
use Rattle.std.proofs.Common.{◌≡◌, ◌≤◌, ℕ, List, [], ◌∷◌, ◌++◌, length, sym, ap, ◌∙◌, subst, append-nil, length-append, arith}
use mathlib.Core.List.{IsPrefix}
use Rattle.std.proofs.lemmas.Bool.{false≢true}
use Rattle.vx_gate.specs.History.{made, groups}
use Rattle.vx_gate.specs.PassView.{PassView, all_parts}
use Rattle.vx_group.specs.Groups.{Group, events_of, StandsFor}
use Rattle.vx_session.specs.Origin.{Origin}
use Rattle.vx_session.specs.Placing.{Placed, Makes}
use Rattle.vx_session.specs.Counting.{ups, downs}
use Rattle.vx_session.specs.TurnLaws.{ClearFirstLaw, ClearLaw, NeverFullLaw}
use Rattle.vx_session.proofs.Laws.Counted.{room-holds}

-- a pass that was made with its gate
pub clear-first : ClearFirstLaw
clear-first pass all seen own = record {
  alone = record { parts = all; own = ap groups seen ∙ sym own };
  even = ap (λ l. ups (events_of l)) own ∙ sym (ap (λ l. downs (events_of l)) own);
  most = let none = ap (λ l. ups (events_of l)) own in omega (arith, none);
}

-- one that has served a link
pub clear-on : ClearLaw
clear-on count pass pass' clear goes = record {
  alone = goes.alone clear.alone;
  even = omega (arith, clear.even, goes.even);
  most = omega (arith, clear.most, goes.most);
}

-- a list that begins another of its length is that one
whole-prefix : {A : Type 0} (xs ys : List A) → IsPrefix xs ys → length ys ≤ length xs → ys ≡ xs
whole-prefix {A} xs ys begins short = by begins.0 begins.1 where
  by : (more : List A) → xs ++ more ≡ ys → ys ≡ xs
  by [] is = sym is ∙ append-nil xs
  by (x ∷ more) is = let long = sym (length-append xs (x ∷ more)) ∙ ap length is in absurd (omega (arith, long, short))

-- what it finds is what it has seen
found-seen : (told : ℕ) (pass pass' : PassView Group) (p : Placed) → Makes told pass (p ∷ []) pass' → pass.parts ≡ all_parts → p.before ≡ pass.seen
found-seen told pass pass' p makes all =
    let x = made pass.number p.group in
    let seen : p.before ++ x ∷ [] ≡ pass.seen ++ x ∷ [] = sym makes.chain.2 ∙ makes.alone all in
    let long = sym (length-append p.before (x ∷ [])) ∙ ap length seen ∙ length-append pass.seen (x ∷ []) in
    whole-prefix pass.seen p.before makes.chain.0 (omega (arith, long))

-- no connect of it is refused for want of room
pub never-full : {B : Type 0} (g : Origin B) → NeverFullLaw g
never-full g count pass pass' r clear low joins =
    let before = ap groups (found-seen 0 pass pass' joins.placed joins.turns.makes clear.alone.parts) ∙ clear.alone.own in
    let none = joins.come in
    false≢true
    (sym none.full
    ∙ room-holds pass.own none.state r (subst (StandsFor none.state) before none.stands) clear.even (omega (arith, clear.most, low)))
