-- What is known of a state by the groups of a history that passes could make.
use Rattle.std.proofs.Common.{◌≡◌, ◌≢◌, ◌==◌, ◌++◌, ◌⊎◌, inl, inr, ℕ, true, cond, List, [], ◌∷◌, append-nil, append_assoc, Option, Some, None, refl, sym, ap, ◌∙◌, subst, arith}
use Rattle.std.proofs.lemmas.Bool.{cases_eq, and_parts, eq-eqb, ne_eqb, cond-true, cond-false}
use Rattle.std.proofs.lemmas.Option.{none-some, same_Some}
use Rattle.vx_gate.specs.declared.views.Logged.{Logged}
use Rattle.vx_gate.specs.History.{groups, made_by, Lawful}
use Rattle.vx_gate.proofs.Laws.Histories.{made_by_mine, made_by_other}
use Rattle.vx_rules.specs.Lists.{along}
use Rattle.vx_rules.proofs.Laws.Lists.{along-none, along-append}
use Rattle.vx_flow.specs.Event.{Event}
use Rattle.vx_flow.specs.InterleavedState.{InterleavedState, first_interleaved}
use Rattle.vx_flow.specs.InterleavedStep.{interleaved_step}
use Rattle.vx_group.specs.Groups.{Group, events_of, StandsFor}
use Rattle.vx_group.specs.Owning.{may_make, may_make_all, MayAdd}
use Rattle.vx_group.proofs.Laws.{events-more}
use Rattle.vx_group.proofs.Plainly.{first-plainly}
use Rattle.vx_group.proofs.Knowing.{Own, Known, OneMore, known-more}

-- ---- the events of a group

-- A pass made these events more, and the others none.
record More (own new : Own) (n : ℕ) (es : List Event) : Type 0 where
  here : new n ≡ own n ++ es
  there : (k : ℕ) → k ≢ n → new k ≡ own k

-- where it made none the events of each pass are the same
more-none : (own new : Own) (n : ℕ) → More own new n [] → own ≡ new
more-none own new n more = λ i k. same k i where
  same : (k : ℕ) → own k ≡ new k
  same k = by (cases_eq k n) where
    by : (k ≡ n) ⊎ (k ≡ n → ⊥) → own k ≡ new k
    by (inl is) = ap own is ∙ sym (more.here ∙ append-nil (own n)) ∙ ap new (sym is)
    by (inr ne) = sym (more.there k ne)

-- the events of each pass behind one that this pass made
abbrev with_event : Own → ℕ → Event → Own
with_event own n e k = cond (k == n) (own k ++ e ∷ []) (own k)

-- the pass made it, and the others none
first-more : (own : Own) (n : ℕ) (e : Event) → OneMore own (with_event own n e) n e
first-more own n e = record {
  here = cond-true (n == n) (own n ++ e ∷ []) (own n) (eq-eqb n n refl);
  there = λ k ne. cond-false (k == n) (own k ++ e ∷ []) (own k) (ne_eqb k n ne);
}

-- behind the first one it made the rest
rest-more : (own new : Own) (n : ℕ) (e : Event) (es : List Event) → More own new n (e ∷ es) → More (with_event own n e) new n es
rest-more own new n e es more = record {
  here = more.here ∙ sym (append_assoc (own n) (e ∷ []) es) ∙ ap (λ xs. xs ++ es) (sym (first-more own n e).here);
  there = λ k ne. more.there k ne ∙ sym ((first-more own n e).there k ne);
}

-- all is known behind the events of a group that the pass may make
known-events : (es : List Event) (own new : Own) (n : ℕ) (f g : InterleavedState) → More own new n es → Known own f → may_make_all (own n) es ≡ true
    → along interleaved_step (Some f) es ≡ Some g → Known new g
known-events [] own new n f g more known may h = subst (λ o. Known o g) (more-none own new n more) (subst (Known own) (same_Some f g h) known)
known-events (e ∷ es) own new n f g more known may h = by (interleaved_step f e) refl h (known-events es) where
  mid_own : Own
  mid_own = with_event own n e

  tests : (may_make (own n) e ≡ true) × (may_make_all (own n ++ e ∷ []) es ≡ true)
  tests = and_parts (may_make (own n) e) (may_make_all (own n ++ e ∷ []) es) may

  by : (o : Option InterleavedState) → interleaved_step f e ≡ o → along interleaved_step o es ≡ Some g
      → ((own new : Own) (n : ℕ) (f g : InterleavedState) → More own new n es → Known own f → may_make_all (own n) es ≡ true → along interleaved_step (Some f) es ≡ Some g → Known new g)
      → Known new g
  by None is h rest = absurd (none-some g (sym (along-none interleaved_step es) ∙ h))
  by (Some mid) is h rest =
      rest mid_own new n mid g (rest-more own new n e es more)
      (known-more own mid_own n e f mid (first-more own n e) known tests.0 is)
      (ap (λ xs. may_make_all xs es) (first-more own n e).here ∙ tests.1) h

-- ---- the groups of a history

-- the events that each pass made in a history
abbrev pub own_of : List (Logged Group) → Own
own_of log n = events_of (made_by n log)

-- in a history with one group more its pass made that group's events more
group-more : (log : List (Logged Group)) (m : Logged Group) → More (own_of log) (own_of (log ++ m ∷ [])) m.by m.group.events
group-more log m = record {
  here = ap events_of (made_by_mine m.by m.group log) ∙ events-more (made_by m.by log) m.group;
  there = λ k ne. ap events_of (made_by_other m.by k m.group log (λ is. ne (sym is)));
}

-- all is known behind the groups of a lawful history
known-groups : (rest before : List (Logged Group)) (f g : InterleavedState) → Lawful MayAdd (before ++ rest) → Known (own_of before) f
    → along interleaved_step (Some f) (events_of (groups rest)) ≡ Some g → Known (own_of (before ++ rest)) g
known-groups [] before f g law known h =
    subst (λ log. Known (own_of log) g) (sym (append-nil before)) (subst (Known (own_of before)) (same_Some f g h) known)
known-groups (m ∷ rest) before f g law known h =
    by (along interleaved_step (Some f) m.group.events) refl (sym (along-append interleaved_step (Some f) m.group.events (events_of (groups rest))) ∙ h) (known-groups rest)
  where
    split : (before ++ m ∷ []) ++ rest ≡ before ++ m ∷ rest
    split = append_assoc before (m ∷ []) rest

    by : (o : Option InterleavedState) → along interleaved_step (Some f) m.group.events ≡ o → along interleaved_step o (events_of (groups rest)) ≡ Some g
        → ((before : List (Logged Group)) (f g : InterleavedState) → Lawful MayAdd (before ++ rest) → Known (own_of before) f
        → along interleaved_step (Some f) (events_of (groups rest)) ≡ Some g → Known (own_of (before ++ rest)) g)
        → Known (own_of (before ++ m ∷ rest)) g
    by None is h more = absurd (none-some g (sym (along-none interleaved_step (events_of (groups rest))) ∙ h))
    by (Some mid) is h more =
        subst (λ log. Known (own_of log) g) split
        (more (before ++ m ∷ []) mid g (subst (Lawful MayAdd) (sym split) law)
        (known-events m.group.events (own_of before) (own_of (before ++ m ∷ [])) m.by f mid (group-more before m) known (law before rest m refl) is) h)

-- it is known of a gateway as it starts
first-known : (port : ℕ) → Known (own_of []) (first_interleaved port)
first-known port = record {
  plain = first-plainly port;
  phases = λ n conn. tt;
  links = λ n conn up. cc;
  free = λ conn low. refl;
  given = λ n conn r none. absurd (omega (arith, none.1));
  once = λ n m conn r q none also. absurd (omega (arith, none.1));
  raised = λ n conn up. cc;
  owned = λ n conn e none of_it. absurd (omega (arith, none.1));
}

-- and of every history for which a state stands
pub history-known : (log : List (Logged Group)) (f : InterleavedState) → Lawful MayAdd log → (stands : StandsFor f (groups log)) → Known (own_of log) stands.last
history-known log f law stands =
    let port = f.state.tables.abort_port in
    known-groups log [] (first_interleaved port) stands.last law (first-known port) stands.allowed
