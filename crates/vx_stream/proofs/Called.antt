-- The calls of a link, and more of them.
use Rattle.std.proofs.Common.{◌≡◌, ℕ, List, [], ◌∷◌, ◌++◌, refl, sym, ap, ◌∙◌, subst, append_assoc, append-nil}
use Rattle.vx_io_traits.specs.declared.ReadOut.{ReadOut}
use Rattle.vx_io_traits.specs.declared.links.Link.{Ghosts}
use Rattle.vx_stream.specs.Answered.{Answered}
use Rattle.vx_stream.specs.Calling.{LinkCall, Receive, Send, call_gave, given_by, taken_by, AtReceives, OwesNone, InTurn, AreSends, OnlyTook}
use Rattle.vx_stream.proofs.Laws.{given-append, taken-append, calls-then}

-- a send gives nothing
sends-give : (xs : List LinkCall) → AreSends xs → given_by xs ≡ []
sends-give [] are = refl
sends-give (Receive slice answer filled ∷ xs) are = absurd are
sends-give (Send bytes answer ∷ xs) are = sends-give xs are

-- and nothing is asked of it
sends-at : (P : List LinkCall → Type 0) (before xs : List LinkCall) → AreSends xs → AtReceives P before xs
sends-at P before [] are = tt
sends-at P before (Receive slice answer filled ∷ xs) are = absurd are
sends-at P before (Send bytes answer ∷ xs) are = sends-at P (before ++ Send bytes answer ∷ []) xs are

-- what holds at each receive of calls, and of more of them
at-append : (P : List LinkCall → Type 0) (before xs ys : List LinkCall) → AtReceives P before xs → AtReceives P (before ++ xs) ys → AtReceives P before (xs ++ ys)
at-append P before [] ys first then = subst (λ l. AtReceives P l ys) (append-nil before) then
at-append P before (Receive slice answer filled ∷ xs) ys first later = (
  first.0,
  at-append P (before ++ Receive slice answer filled ∷ []) xs ys first.1
      (subst (λ l. AtReceives P l ys) (sym (append_assoc before (Receive slice answer filled ∷ []) xs)) later),
)
at-append P before (Send bytes answer ∷ xs) ys first later =
    at-append P (before ++ Send bytes answer ∷ []) xs ys first (subst (λ l. AtReceives P l ys) (sym (append_assoc before (Send bytes answer ∷ []) xs)) later)

-- at each receive another fact holds too
at-as : (P Q : List LinkCall → Type 0) → ((calls : List LinkCall) → P calls → Q calls) → (before xs : List LinkCall) → AtReceives P before xs → AtReceives Q before xs
at-as P Q so before [] holds = tt
at-as P Q so before (Receive slice answer filled ∷ xs) holds = (so before holds.0, at-as P Q so (before ++ Receive slice answer filled ∷ []) xs holds.1)
at-as P Q so before (Send bytes answer ∷ xs) holds = at-as P Q so (before ++ Send bytes answer ∷ []) xs holds

-- nothing was owed of messages, of which more came later
owes-more : (limit : ℕ) (xs ys : List Answered) (calls : List LinkCall) → OwesNone limit xs calls → OwesNone limit (xs ++ ys) calls
owes-more limit xs ys calls none = record {
  earlier = none.earlier;
  later = none.later ++ ys;
  cut = ap (λ l. l ++ ys) none.cut ∙ append_assoc none.earlier none.later ys;
  came = none.came;
  short = none.short;
  replied = none.replied;
}

module _ {L : Type 0} (ways : Ghosts L) where
  module _ (limit : ℕ) where
    -- before the first call
    pub turn-none : (a : L) → InTurn ways limit [] a [] [] a
    turn-none a = record { calls = []; made = refl; gave = refl; took = refl; turns = tt }

    -- Nothing was owed behind the calls so far; then came a receive, and the link took replies to more messages.
    pub turn-then : (a b c d : L) (xs ys : List Answered) (received written written' slice filled : List ℕ) (answer : ReadOut)
        → (so_far : InTurn ways limit xs a received written b) → OwesNone limit xs so_far.calls → ways.receives b slice answer filled c
        → OnlyTook ways c written' d → InTurn ways limit (xs ++ ys) a (received ++ call_gave (Receive slice answer filled)) (written ++ written') d
    turn-then a b c d xs ys received written written' slice filled answer so_far none call took =
        let one : LinkCall = Receive slice answer filled in
        let more : List LinkCall = one ∷ took.calls in
        let P : List LinkCall → Type 0 = OwesNone limit (xs ++ ys) in
        record {
          calls = so_far.calls ++ more;
          made = calls-then ways a b d so_far.calls more so_far.made (c, call, took.made);
          gave = given-append so_far.calls more
              ∙ ap (λ l. l ++ given_by more) so_far.gave
              ∙ ap (λ l. received ++ (call_gave one ++ l)) (sends-give took.calls took.only)
              ∙ ap (λ l. received ++ l) (append-nil (call_gave one));
          took = taken-append so_far.calls more ∙ ap (λ l. l ++ taken_by more) so_far.took ∙ ap (λ l. written ++ l) took.took;
          turns = at-append P [] so_far.calls more
              (at-as (OwesNone limit xs) P (owes-more limit xs ys) [] so_far.calls so_far.turns)
              (owes-more limit xs ys so_far.calls none, sends-at P (so_far.calls ++ one ∷ []) took.calls took.only);
        }
