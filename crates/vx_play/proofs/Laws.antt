-- Laws that the crates above cite.
use Rattle.std.proofs.Common.{◌≡◌, ℕ, List, Some}
use Rattle.vx_play.specs.declared.run.Order.TheVariants as order
use Rattle.vx_play.specs.Outcome.{order_of}

-- words ask for one thing of the source
pub one_order : (words : List (List ℕ)) → order_of words ≡ Some order.Play → order_of words ≡ Some order.Lift → ⊥
one_order words play lift = absurd (cc)
