-- The first rule for a message, by its place, and what an instrument does with it.
use Rattle.std.proofs.Common.{◌≡◌, ℕ, ◌≤◌, nat_lt, Bool, true, false, cond, List, length, Option, Some, None, sym, ap, ◌∙◌, arith}
use Rattle.std.specs.List.{find, slice_get, position_from, position_or_len}
use Rattle.std.proofs.lemmas.Bool.Decides.{nat_tests}
use Rattle.std.proofs.lemmas.Iterator.Adapters.{position_from-zero}
use Rattle.std.proofs.lemmas.List.Folds.{find_at}
use Rattle.std.proofs.lemmas.Option.{slice_get_past}
use Rattle.std.specs.Str.{bytes_eq}
use Rattle.vx_lemmas.proofs.Laws.Conditions.{unchosen}
use Rattle.vx_inst.specs.View.{View}
use Rattle.vx_inst.specs.Shared.{without_message}
use Rattle.vx_table.specs.Table.{Rule, Delayed, TableState, with_ready, without_line_feed, rule_for, begun, finished}

at-place : (b : Bool) (q place : ℕ) → cond b (Some q) None ≡ Some place → q ≡ place
at-place true q place h = cc
at-place false q place h = cc

-- What passes first is what stands at the first place that passes.
pub found-at : {X : Type 0} (p : X → Bool) (xs : List X) (place : ℕ) → Some place ≡ position_from p 0 xs → find p xs ≡ slice_get xs place
found-at p xs place h =
    find_at p xs
    ∙ ap (slice_get xs) (at-place (nat_lt (position_or_len p xs) (length xs)) (position_or_len p xs) place (position_from-zero p xs ∙ sym h))

-- Where no place passes, nothing does.
pub found-none : {X : Type 0} (p : X → Bool) (xs : List X) → None ≡ position_from p 0 xs → find p xs ≡ None
found-none p xs h =
    let past : nat_lt (position_or_len p xs) (length xs) ≡ false = unchosen (nat_lt (position_or_len p xs) (length xs)) (position_or_len p xs) (position_from-zero p xs ∙ sym h) in
    let behind : length xs ≤ position_or_len p xs = grind (arith, nat_tests, past) in
    find_at p xs ∙ slice_get_past xs (position_or_len p xs) behind

-- an instrument with this body
abbrev pub of_body : View → List Rule → Bool → Option Delayed → ℕ → TableState
of_body body rules ready delayed told = record { seen = with_ready body ready; rules = rules; delayed = delayed; told = told }

-- the first place of a rule for a text
abbrev place_for : List ℕ → List Rule → Option ℕ
place_for text rules = position_from (λ r. bytes_eq r.asked text) 0 rules

module _ (body emptied : View) (rules : List Rule) (ready : Bool) (delayed : Option Delayed) (told : ℕ) (text : List ℕ) where
  -- The rule at the first place for the message begins, once the message is over.
  pub finished-some : (place : ℕ) → emptied ≡ without_message body → text ≡ without_line_feed body.inbox → Some place ≡ place_for text rules
      → begun (of_body emptied rules ready delayed told) (slice_get rules place) ≡ finished (of_body body rules ready delayed told)
  finished-some place over is first =
      ap (λ (b : View). begun (of_body b rules ready delayed told) (slice_get rules place)) over
      ∙ ap (begun (of_body (without_message body) rules ready delayed told)) (sym (found-at (λ r. bytes_eq r.asked text) rules place first))
      ∙ ap (λ (t : List ℕ). begun (of_body (without_message body) rules ready delayed told) (rule_for t rules)) is

  -- Where no place has a rule for it, the message is over, and nothing more happens.
  pub finished-none : emptied ≡ without_message body → text ≡ without_line_feed body.inbox → None ≡ place_for text rules
      → of_body emptied rules ready delayed told ≡ finished (of_body body rules ready delayed told)
  finished-none over is first =
      ap (λ (b : View). of_body b rules ready delayed told) over
      ∙ ap (begun (of_body (without_message body) rules ready delayed told)) (sym (found-none (λ r. bytes_eq r.asked text) rules first))
      ∙ ap (λ (t : List ℕ). begun (of_body (without_message body) rules ready delayed told) (rule_for t rules)) is
