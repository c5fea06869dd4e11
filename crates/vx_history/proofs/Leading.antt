-- The events of lines that are taken lead the gateway of one thread.
use Rattle.std.proofs.Common.{◌≡◌, ℕ, ◌+◌, Bool, true, false, if◌then◌else◌, List, [], ◌∷◌, ◌++◌, Option, Some, None, IsSome, length, refl, sym, ap, ◌∙◌, subst}
use Rattle.vx_text.specs.TextLines.{lines}
use Rattle.vx_rules.specs.Lists.{along}
use Rattle.vx_rules.proofs.Laws.Lists.{along-append}
use Rattle.vx_rules.specs.State.{State}
use Rattle.vx_rules.specs.AtomicStep.{atomic_step}
use Rattle.vx_flow.specs.Event.{Event}
use Rattle.vx_flow.specs.Event as event
use Rattle.vx_flow.specs.InterleavedState.{Turn, turn_after}
use Rattle.vx_flow.specs.Linearization.{linearized, linearization_from}
use Rattle.vx_history.specs.declared.cause.Cause.{Cause}
use Rattle.vx_history.specs.declared.cause.Cause.TheVariants as cause
use Rattle.vx_history.specs.Shown.{Timed}
use Rattle.vx_history.specs.CheckState.{CheckState, Kept, Free, beginning, kept_of, kept_with}
use Rattle.vx_history.specs.Saying.{Said, says}
use Rattle.vx_history.specs.Saying as saying
use Rattle.vx_history.specs.Taking.{Took, Taken, Spoiled, kept_after, led, taken_so, at_moment, is_early, takes}
use Rattle.vx_history.specs.History.{Walk, Through, Stops, WalksBy, Walks, Lawful, Faulty, ended, is_over}
use Rattle.vx_history.specs.Laws.{LegalSoFarLaw, LawfulLaw}

-- the turn under way behind events
turn_along : Option Turn → List Event → Option Turn
turn_along turn [] = turn
turn_along turn (e ∷ es) = turn_along (turn_after turn e) es

-- events lead from one state of a trace to another
pub record Leads (s : CheckState) (es : List Event) (t : CheckState) : Type 0 where
  pub gateway : along atomic_step (Some s.gateway) (linearization_from s.turn es) ≡ Some t.gateway
  pub turn : (others : List Event) → linearization_from s.turn (es ++ others) ≡ linearization_from s.turn es ++ linearization_from t.turn others

-- ---- what was taken

taken-events : (a b : List Event) (s t : CheckState) → Taken a s ≡ Taken b t → a ≡ b
taken-events a b s t same = cc

taken-state : (a b : List Event) (s t : CheckState) → Taken a s ≡ Taken b t → s ≡ t
taken-state a b s t same = cc

through-events : (a b : List Event) (s t : CheckState) → Through a s ≡ Through b t → a ≡ b
through-events a b s t same = cc

through-state : (a b : List Event) (s t : CheckState) → Through a s ≡ Through b t → s ≡ t
through-state a b s t same = cc

-- no event leads to where the gateway and the turn are the same
still : (s t : CheckState) → s.gateway ≡ t.gateway → s.turn ≡ t.turn → Leads s [] t
still s t gateway turn = record { gateway = ap Some gateway; turn = λ others. ap (λ u. linearization_from u others) turn }

-- one event leads on, where the gateway takes what it linearizes to
leads-one : (s : CheckState) (kept : List Kept) (e : Event) (found : Option State) (es : List Event) (t : CheckState)
    → along atomic_step (Some s.gateway) (linearized s.turn e) ≡ found → led s kept e found ≡ Taken es t → Leads s es t
leads-one s kept e None es t at same = cc
leads-one s kept e (Some g) es t at same =
    let to : CheckState = record { gateway = g; turn = turn_after s.turn e; kept = kept; moment = s.moment; next = Free } in
    let whole : Leads s (e ∷ []) to = record {
      gateway = along-append atomic_step (Some s.gateway) (linearized s.turn e) [] ∙ at;
      turn = λ others. sym (appended (linearized s.turn e) (linearization_from (turn_after s.turn e) others));
    } in
    subst (λ x. Leads s x t) (taken-events (e ∷ []) es to t same) (subst (λ x. Leads s (e ∷ []) x) (taken-state (e ∷ []) es to t same) whole)
  where
    appended : {X : Type 0} (xs ys : List X) → (xs ++ []) ++ ys ≡ xs ++ ys
    appended [] ys = refl
    appended (x ∷ xs) ys = ap (λ zs. x ∷ zs) (appended xs ys)

-- what a line says leads on, where it is taken
so-leads : (s : CheckState) (said : Said) (es : List Event) (t : CheckState) → taken_so s said ≡ Taken es t → Leads s es t
so-leads s (saying.Quiet next) es t same =
    let to : CheckState = record s { next = next } in
    subst (λ x. Leads s x t) (taken-events [] es to t same) (subst (λ x. Leads s [] x) (taken-state [] es to t same) (still s to refl refl))
so-leads s (saying.Happens e) es t same = leads-one s (kept_after s.kept e) e (along atomic_step (Some s.gateway) (linearized s.turn e)) es t refl same
so-leads s (saying.Comes conn xid asked) es t same =
    leads-one s (kept_with s.kept (kept_of conn xid asked)) (event.Arrive conn asked s.moment) (along atomic_step (Some s.gateway) (linearized s.turn (event.Arrive conn asked s.moment))) es t refl same
so-leads s (saying.Faulty why) es t same = cc

-- the same of a line, early or not
by-early : (early : Bool) (s : CheckState) (said : Said) (why : Took) (es : List Event) (t : CheckState)
    → ((es : List Event) (t : CheckState) → why ≡ Taken es t → ⊥) → (if early then why else taken_so s said) ≡ Taken es t → Leads s es t
by-early true s said why es t never same = absurd (never es t same)
by-early false s said why es t never same = so-leads s said es t same

never-spoiled : (why : Cause) (es : List Event) (t : CheckState) → Spoiled why ≡ Taken es t → ⊥
never-spoiled why es t same = cc

pub line-leads : (s : CheckState) (shown : Option Timed) (es : List Event) (t : CheckState) → takes s shown ≡ Taken es t → Leads s es t
line-leads s None es t same = cc
line-leads s (Some x) es t same =
    let leads : Leads (at_moment s x) es t =
    by-early (is_early s x) (at_moment s x) (says (at_moment s x) s.next x.line) (Spoiled cause.Moment) es t (never-spoiled cause.Moment) same in
    record { gateway = leads.gateway; turn = leads.turn }

-- ---- lines

-- a line was taken, and those behind it lead on
by-took : (n : ℕ) (s : CheckState) (texts : List (List ℕ)) (events : List Event) (after : CheckState) (took : Took)
    → ((es : List Event) (t : CheckState) → took ≡ Taken es t → Leads s es t)
    → ((t : CheckState) (others : List Event) (last : CheckState) → Walks (n + 1) t texts (Through others last) → along atomic_step (Some t.gateway) (linearization_from t.turn others) ≡ Some last.gateway)
    → WalksBy n (λ later w. Walks (n + 1) later texts w) (Through events after) took
    → along atomic_step (Some s.gateway) (linearization_from s.turn events) ≡ Some after.gateway
by-took n s texts events after (Spoiled why) leads later by = cc
by-took n s texts events after (Taken es t) leads later (Stops line why, walks, same) = cc
by-took n s texts events after (Taken es t) leads later (Through others last, walks, same) =
    let lead : Leads s es t = leads es t refl in
    let is : events ≡ es ++ others = through-events events (es ++ others) after last same in
    let end : after ≡ last = through-state events (es ++ others) after last same in
    ap (λ xs. along atomic_step (Some s.gateway) (linearization_from s.turn xs)) is
    ∙ ap (along atomic_step (Some s.gateway)) (lead.turn others)
    ∙ along-append atomic_step (Some s.gateway) (linearization_from s.turn es) (linearization_from t.turn others)
    ∙ ap (λ o. along atomic_step o (linearization_from t.turn others)) lead.gateway
    ∙ later t others last walks
    ∙ ap (λ (x : CheckState). Some x.gateway) (sym end)

-- lines that are all taken lead on
pub all-lead : (n : ℕ) (s : CheckState) (texts : List (List ℕ)) (events : List Event) (after : CheckState)
    → Walks n s texts (Through events after) → along atomic_step (Some s.gateway) (linearization_from s.turn events) ≡ Some after.gateway
all-lead n s [] events after same =
    ap (λ xs. along atomic_step (Some s.gateway) (linearization_from s.turn xs)) (through-events events [] after s same)
    ∙ ap (λ (x : CheckState). Some x.gateway) (sym (through-state events [] after s same))
all-lead n s (text ∷ texts) events after (shown, shows, by) =
    by-took n s texts events after (takes s shown) (λ es t same. line-leads s shown es t same) (λ t others last walks. all-lead (n + 1) t texts others last walks) by

-- the law of them
pub legal_so_far-law : LegalSoFarLaw
legal_so_far-law texts events s walks = all-lead 1 beginning texts events s walks

-- ---- a whole trace

-- a walk that ends in a lawful history went through all lines
lawful-through : (count : ℕ) (far : Walk) (events : List Event) → Lawful events ≡ ended count far → (after : CheckState) × (far ≡ Through events after)
lawful-through count (Stops line why) events same = cc
lawful-through count (Through others after) events same = by-next (is_over after.next) same
  where
    by-next : (over : Bool) → Lawful events ≡ (if over then Lawful others else Faulty (count + 1) cause.Place) → (last : CheckState) × (Through others after ≡ Through events last)
    by-next true same = (after, ap (λ es. Through es after) (sym (same-events same)))
      where
        same-events : Lawful events ≡ Lawful others → events ≡ others
        same-events same = cc
    by-next false same = cc

-- a history that a trace tells is legal
pub lawful-law : LawfulLaw
lawful-law bytes events tells =
    let far = lawful-through (length (lines bytes)) tells.far events tells.told_is in
    subst IsSome (sym (legal_so_far-law (lines bytes) events far.0 (subst (Walks 1 beginning (lines bytes)) far.1 tells.walks))) refl
