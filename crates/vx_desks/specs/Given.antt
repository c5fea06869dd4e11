-- To be believed.
-- The numbers of links that the histories of four buses give, as clients know them, and that none is given twice.
use Rattle.std.specs.Prelude.{◌≡◌, ◌≢◌, ◌≤◌, ℕ, List, ◌++◌, map, Some}
use Rattle.std.specs.List.{All, AllPairs}
use Rattle.vx_calls.specs.declared.limits.TheConstants.{LINK_LAST}
use Rattle.vx_rules.specs.Entry.{Entry}
use Rattle.vx_rules.specs.Legal.{legal_state}
use Rattle.vx_rules.specs.Numbers.{links_given}
use Rattle.vx_rules.specs.State.{State}
use Rattle.vx_desks.specs.Numbers.{global_number}

-- a number that a link of a bus may have
pub record IsLink (lid : ℕ) : Type 0 where
  pub least : 1 ≤ lid
  pub most : lid ≤ LINK_LAST

-- the numbers that a bus's history gives to links, as clients know them
abbrev pub given_on : ℕ → List Entry → List ℕ
given_on bus history = map (global_number bus) (links_given history)

-- those that the histories of all four give
abbrev pub given_by_all : (zero one two three : List Entry) → List ℕ
given_by_all first one two three = given_on 0 first ++ (given_on 1 one ++ (given_on 2 two ++ given_on 3 three))

-- each number that a history gives to a link is one that a link may have, so that it has a number over all buses
abbrev pub LinksLaw : Type 0
LinksLaw = (abort_port : ℕ) (history : List Entry) (s : State) → legal_state abort_port history ≡ Some s → All IsLink (links_given history)

-- no number is given twice over four histories
abbrev pub OnceLaw : Type 0
OnceLaw = (p q r t : ℕ) (first one two three : List Entry) (a b c d : State) → legal_state p first ≡ Some a → legal_state q one ≡ Some b → legal_state r two ≡ Some c
    → legal_state t three ≡ Some d → AllPairs (λ m n. m ≢ n) (given_by_all first one two three)
