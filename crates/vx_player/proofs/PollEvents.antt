-- The events of a poll: its turn's beginning, its transfers, and its end.
use Rattle.std.proofs.Common.{◌≡◌, ℕ, Bool, true, false, cond, List, [], ◌∷◌, ◌++◌, Option, Some, refl, ap, ◌∙◌}
use Rattle.std.specs.List.{flat_map, list_all}
use Rattle.std.proofs.lemmas.Grind.{flat_map-append}
use Rattle.std.proofs.lemmas.Bool.{and_from}
use Rattle.std.proofs.lemmas.List.Folds.{list_all-append}
use Rattle.vx_488.specs.declared.transfers.Transfer.{Transfer}
use Rattle.vx_rules.specs.Lists.{along}
use Rattle.vx_rules.proofs.Laws.Lists.{along-append}
use Rattle.vx_flow.specs.Event.{Event, Begin, Move}
use Rattle.vx_flow.specs.InterleavedState.{InterleavedState}
use Rattle.vx_flow.specs.InterleavedStep.{interleaved_step}
use Rattle.vx_flow.specs.Poll.{Ending, begins, begun_events, moved_events, run_events, end_events}

-- what holds of the beginning of a turn, of transfers and of its end holds of all events of a poll
pub poll-all : (test : Event → Bool) (f : InterleavedState) (conn now : ℕ) (moves : List Transfer) (ending : Ending) → test (Begin conn now) ≡ true
    → test (Move conn moves) ≡ true → list_all test (end_events conn now ending) ≡ true
    → list_all test (run_events f conn now moves ++ end_events conn now ending) ≡ true
poll-all test f conn now moves ending begin move end =
    list_all-append test (run_events f conn now moves) (end_events conn now ending)
    ∙ and_from (list_all test (run_events f conn now moves)) (list_all test (end_events conn now ending))
    (list_all-append test (begun_events f conn now) (moved_events conn moves)
    ∙ and_from (list_all test (begun_events f conn now)) (list_all test (moved_events conn moves)) (begun (begins f conn now)) (moved moves move)) end
  where
    begun : (b : Bool) → list_all test (cond b (Begin conn now ∷ []) []) ≡ true
    begun true = and_from (test (Begin conn now)) true begin refl
    begun false = refl

    moved : (moves : List Transfer) → test (Move conn moves) ≡ true → list_all test (moved_events conn moves) ≡ true
    moved [] h = refl
    moved (t ∷ ts) h = and_from (test (Move conn (t ∷ ts))) true h refl

-- where the beginning of a turn gives nothing, what the events of a poll give is what its transfers and its end do
pub poll-gives : {A : Type 0} (give : Event → List A) (f : InterleavedState) (conn now : ℕ) (moves : List Transfer) (ending : Ending) → give (Begin conn now) ≡ []
    → flat_map give (run_events f conn now moves ++ end_events conn now ending)
    ≡ flat_map give (moved_events conn moves) ++ flat_map give (end_events conn now ending)
poll-gives give f conn now moves ending none =
    flat_map-append give (run_events f conn now moves) (end_events conn now ending)
    ∙ ap (λ xs. xs ++ flat_map give (end_events conn now ending))
    (flat_map-append give (begun_events f conn now) (moved_events conn moves) ∙ ap (λ xs. xs ++ flat_map give (moved_events conn moves)) (begun (begins f conn now)))
  where
    begun : (b : Bool) → flat_map give (cond b (Begin conn now ∷ []) []) ≡ []
    begun true = ap (λ xs. xs ++ []) none
    begun false = refl

-- two lists of events, one after the other
pub along-both : (f mid : InterleavedState) (g : Option InterleavedState) (xs ys : List Event) → along interleaved_step (Some f) xs ≡ Some mid → along interleaved_step (Some mid) ys ≡ g
    → along interleaved_step (Some f) (xs ++ ys) ≡ g
along-both f mid g xs ys first second = along-append interleaved_step (Some f) xs ys ∙ ap (λ o. along interleaved_step o ys) first ∙ second
