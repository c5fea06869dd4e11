-- Each kind of step keeps the rule, which is here over the three numbers.
use Rattle.std.proofs.Common.{◌≡◌, ◌≢◌, ◌⊎◌, ℕ, zero, suc, ◌+◌, ◌^◌, ◌<◌, ◌≤◌, List, [], ◌∷◌, ◌++◌, length, set, sum_by, ◌==◌, ◌&&◌, true, false, Bool, cond, sym, refl, ap, subst, ◌∙◌, inl, inr, arith, eq-eqb, length-append, length-set}
use Rattle.std.specs.Prelude.{nat_le, nat_lt}
use Rattle.std.proofs.lemmas.Bool.Decides.{nat_tests}
use Rattle.std.proofs.lemmas.List.Sums.{sum_by_push}
use mathlib.Core.Logic.{dite}
use mathlib.Core.List.{IsPrefix}
use mathlib.Core.Option.{Option, some, none, some-injective, some-ne-none}
use native.Mathlib.Decide.{ℕ_discrete}
use lib.ListN.{get_elem?}
use Rattle.atomic_table.proofs.Lists.{at_set, set_here, set_else, at_longer, at_last}
use Rattle.vx_gate.specs.declared.views.Logged.{Logged}
use Rattle.vx_gate.specs.declared.views.View.{View}
use Rattle.vx_gate.specs.declared.views.Stage.{Stage}
use Rattle.vx_gate.specs.declared.views.Stage.TheVariants.{Idle, Drawn, Turn, Counted, Spent}
use Rattle.vx_gate.specs.History.{made, groups, made_by, Lawful}
use Rattle.vx_gate.specs.Rule.{has, drawn, holding, counted, Live, weight, Holds, Knows, has_ticket, is_out, holds_turn, has_counted, parts_of, SeenWhole, Fair}
use Rattle.vx_gate.specs.Steps.{at_stage, first_view, fresh, with_group, longer, shorter, met, spent}
use Rattle.vx_gate.proofs.Lists.{at_below, at_end, prefix_refl, prefix_more, prefix_both, prefix_whole, sum_set, sum_at, sum_two, sum_none, sum_within}
use Rattle.vx_gate.proofs.Laws.Histories.{made_by_mine, made_by_other, made_by_none, made_by_between, front_none, below_more, below_with, Lawful_more}

cond_le : (b : Bool) → cond b 1 0 ≤ 1
cond_le true = omega arith
cond_le false = omega arith

-- the next ticket joins the tickets out
window_more : (served next t : ℕ) → served ≤ next → cond (nat_le served t && nat_lt t next) 1 0 + cond (next == t) 1 0 ≡ cond (nat_le served t && nat_lt t (next + 1)) 1 0
window_more served next t h = grind (arith, nat_tests)

-- the ticket that was served leaves them
window_less : (served next t : ℕ) → served < next → cond (nat_le served t && nat_lt t next) 1 0 ≡ cond (served == t) 1 0 + cond (nat_le (served + 1) t && nat_lt t next) 1 0
window_less served next t h = grind (arith, nat_tests)

has_here : (t u : ℕ) → u ≡ t → has t (Turn u) ≡ 1
has_here t u e = ap (λ b. cond b 1 0) (eq-eqb u t e)

has-le-drawn : (t : ℕ) (st : Stage) → has t st ≤ drawn st
has-le-drawn t (Drawn u) = cond_le (u == t)
has-le-drawn t (Turn u) = cond_le (u == t)
has-le-drawn t (Counted u) = cond_le (u == t)
has-le-drawn t _ = omega arith

holding-le-drawn : (st : Stage) → holding st ≤ drawn st
holding-le-drawn (Drawn u) = omega arith
holding-le-drawn _ = omega arith

counted-le-drawn : (st : Stage) → counted st ≤ drawn st
counted-le-drawn (Drawn u) = omega arith
counted-le-drawn _ = omega arith

-- a ticket is out with a part
drawn-le-weight : (parts : ℕ) (st : Stage) → (Live st → 0 < parts) → drawn st ≤ weight parts st
drawn-le-weight parts Spent h = omega arith
drawn-le-weight parts _ h = let p = h tt in omega arith

-- a view with no weight is at its end
weightless : (parts : ℕ) (st : Stage) → (Live st → 0 < parts) → weight parts st ≡ 0 → ¬ Live st
weightless parts Spent h z l = l
weightless parts _ h z l = let p = h tt in omega arith

ended_holds : (st : Stage) → ¬ Live st → holding st ≡ 0
ended_holds Spent h = refl
ended_holds _ h = absurd (h tt)

module _ {G : Type 0} where
  holds_has : (t : ℕ) (log seen : List (Logged G)) (st : Stage) → Holds t log seen st → holding st ≤ has t st
  holds_has t log seen (Turn u) h = omega (arith, has_here t u h.0)
  holds_has t log seen (Counted u) h = omega (arith, has_here t u h.0)
  holds_has t log seen _ h = omega arith

  -- of one that doesn't hold the turn nothing is said
  holds_none : (t : ℕ) (log seen : List (Logged G)) (st : Stage) → holding st ≡ 0 → Holds t log seen st
  holds_none t log seen (Turn u) h = absurd (omega arith)
  holds_none t log seen (Counted u) h = absurd (omega arith)
  holds_none t log seen _ h = tt

  -- after a change of one view each view is that one, or was there
  each_set : (P : ℕ → View G → Type 0) (views : List (View G)) (id : ℕ) (w : View G) → P id w → ((j : ℕ) (u : View G) → j ≢ id → get_elem? views j ≡ some u → P j u)
      → (j : ℕ) (u : View G) → get_elem? (set views id w) j ≡ some u → P j u
  each_set P views id w mine others j u e = elim (at_set views id j w u e)
      [ inl h ↦ subst (λ (y : ℕ × View G). P y.0 y.1) (λ i. (sym h.0 i, h.1 i)) mine | inr h ↦ others j u h.0 h.1 ]

  whole_set : (log : List (Logged G)) (views : List (View G)) (id : ℕ) (v w : View G) → get_elem? views id ≡ some v → SeenWhole log views
      → (v.seen ≡ log → Live w.stage × (w.seen ≡ log)) → SeenWhole log (set views id w)
  whole_set log views id v w at h keeps = dite (ℕ_discrete h.0 id)
      (λ is.
      let same : h.1 ≡ v = some-injective h.1 v (sym h.2 ∙ ap (get_elem? views) is ∙ at) in
      let k = keeps (ap (λ (y : View G). y.seen) (sym same) ∙ h.4) in
      (id, w, set_here views id w (at_below views id v at), k.0, k.1))
      (λ ne. (h.0, h.1, set_else views id h.0 w ne ∙ h.2, h.3, h.4))

  -- what the longer of two beginnings of the history is
  pub record Longest (xs ys log : List (Logged G)) : Type 0 where
    pub first : IsPrefix xs (longer xs ys)
    pub second : IsPrefix ys (longer xs ys)
    pub seen : IsPrefix (longer xs ys) log
    pub also : IsPrefix (shorter xs ys) log

  -- what holds of two lists, the longer one first, holds of the longer and the shorter of them
  pub by_length : (P : List (Logged G) → List (Logged G) → Type 0) (xs ys : List (Logged G)) → (length ys ≤ length xs → P xs ys) → (length xs ≤ length ys → P ys xs) → P (longer xs ys) (shorter xs ys)
  by_length P xs ys first second = by (nat_lt (length xs) (length ys)) refl where
    by : (b : Bool) → nat_lt (length xs) (length ys) ≡ b → P (cond b ys xs) (cond b xs ys)
    by true is = second (grind (arith, nat_tests))
    by false is = first (grind (arith, nat_tests))

  pub longest : (xs ys log : List (Logged G)) → IsPrefix xs log → IsPrefix ys log → Longest xs ys log
  longest xs ys log p q = record {
    first = by_length (λ l s. IsPrefix xs l) xs ys (λ le. prefix_refl xs) (λ le. prefix_both xs ys log p q le);
    second = by_length (λ l s. IsPrefix ys l) xs ys (λ le. prefix_both ys xs log q p le) (λ le. prefix_refl ys);
    seen = by_length (λ l s. IsPrefix l log) xs ys (λ le. p) (λ le. q);
    also = by_length (λ l s. IsPrefix s log) xs ys (λ le. q) (λ le. p);
  }

  -- the longer of two beginnings is all of the history where one of them is
  prefix_le : (xs ys : List (Logged G)) → IsPrefix xs ys → length xs ≤ length ys
  prefix_le xs ys h = omega (arith, ap length h.1, length-append xs h.0)

module _ {K G : Type 0} (stands : K → List G → Type 0) (may_add : List G → G → Type 0) where
  abbrev F : ℕ → ℕ → ℕ → List (Option K) → List (View G) → Type 0
  F = Fair stands may_add

  -- no more tickets are out than there are parts
  pub outs_below : (T S C : ℕ) (homes : List (Option K)) (views : List (View G)) (f : Fair stands may_add T S C homes views) → sum_by is_out views ≤ 4294967296
  outs_below T S C homes views f = omega (arith, f.parts, sum_within is_out parts_of views (λ j u e. drawn-le-weight u.parts u.stage (f.each_view j u e).part))

  pub counts_below : (T S C : ℕ) (homes : List (Option K)) (views : List (View G)) (f : Fair stands may_add T S C homes views) → sum_by has_counted views ≤ 4294967296
  counts_below T S C homes views f = omega (arith, outs_below T S C homes views f, sum_within has_counted is_out views (λ j u e. counted-le-drawn u.stage))

  module _ (T S C : ℕ) (homes : List (Option K)) (views : List (View G)) (f : Fair stands may_add T S C homes views) (id : ℕ) (v : View G) (at : get_elem? views id ≡ some v) where
    -- no other view than that with the ticket that is served holds the turn
    alone : has S v.stage ≡ 1 → (j : ℕ) (u : View G) → j ≢ id → get_elem? views j ≡ some u → holding u.stage ≡ 0
    alone here j u ne e = let k = f.each_view j u e in omega (arith, holds_has S f.log u.seen u.stage k.turn, sum_two (has_ticket S) views id j v u ne at e, f.tickets S, cond_le (nat_le S S && nat_lt S T))

    -- and after it no view does, where that one doesn't
    no_turn : (w : View G) → has S v.stage ≡ 1 → holding w.stage ≡ 0 → sum_by holds_turn (set views id w) ≡ 0
    no_turn w here z = sum_none holds_turn (set views id w) (each_set (λ _ u. holding u.stage ≡ 0) views id w z (alone here))

    -- draw
    pub draws : v.stage ≡ Idle → Fair stands may_add (T + 1) S C homes (set views id (at_stage (Drawn T) v))
    draws idle =
        let w : View G = at_stage (Drawn T) v in
        let k = f.each_view id v at in
        let live : Live v.stage = subst Live (sym idle) tt in
        let turns = sum_set holds_turn views id v w at in
        let z : holding v.stage ≡ 0 = ap holding idle in
        record {
          log = f.log;
          tickets = λ t. let s = sum_set (has_ticket t) views id v w at in let none : has t v.stage ≡ 0 = ap (has t) idle in let old = f.tickets t in omega (arith, f.outs, window_more S T t (omega (arith, f.outs)));
          outs = omega (arith, f.outs, sum_set is_out views id v w at, ap drawn idle);
          few = f.few;
          long = f.long;
          counts = omega (arith, f.counts, sum_set has_counted views id v w at, ap counted idle);
          parts = omega (arith, f.parts, sum_set parts_of views id v w at, ap (weight v.parts) idle);
          each_view = each_set (Knows S f.log) views id w record { seen = k.seen; also = k.also; own = λ _. k.own live; within = λ _. k.within live; part = λ _. k.part live; maker = λ _. k.maker live; turn = tt } (λ j u _ e. f.each_view j u e);
          whole = whole_set f.log views id v w at f.whole (λ e. (tt, e));
          numbers = below_more f.log _ _ f.numbers (omega (arith, length-set views id w));
          lawful = f.lawful;
          deep = f.deep;
          home = λ none. f.home (omega arith);
          out = λ some. f.out (omega arith);
        }

    -- take: where the ticket that is served is this view's, the value is at home and stands for the history
    pub takes : v.stage ≡ Drawn S → (kept : K) × (get_elem? homes 0 ≡ some (some kept)) × stands kept (groups f.log)
        × Fair stands may_add T S C (set homes 0 none) (set views id record { stage = Turn S; maker = v.maker; parts = v.parts; seen = f.log; also = v.also; own = v.own })
    takes mine =
        let w : View G = record { stage = Turn S; maker = v.maker; parts = v.parts; seen = f.log; also = v.also; own = v.own } in
        let k = f.each_view id v at in
        let live : Live v.stage = subst Live (sym mine) tt in
        let here : has S v.stage ≡ 1 = ap (has S) mine ∙ has_here S S refl in
        let z : holding v.stage ≡ 0 = ap holding mine in
        let turns = sum_set holds_turn views id v w at in
        let before : sum_by holds_turn views ≡ 0 = sum_none holds_turn views (λ j u e. dite (ℕ_discrete j id)
        (λ is. ap (λ (y : View G). holding y.stage) (some-injective u v (sym e ∙ ap (get_elem? views) is ∙ at)) ∙ z) (λ ne. alone here j u ne e)) in
        let h = f.home before in (
          h.0,
          h.1,
          h.2,
          record {
            log = f.log;
            tickets = λ t. let s = sum_set (has_ticket t) views id v w at in let same : has t v.stage ≡ has t (Turn S) = ap (has t) mine in let old = f.tickets t in omega arith;
            outs = omega (arith, f.outs, sum_set is_out views id v w at, ap drawn mine);
            few = f.few;
            long = f.long;
            counts = omega (arith, f.counts, sum_set has_counted views id v w at, ap counted mine);
            parts = omega (arith, f.parts, sum_set parts_of views id v w at, ap (weight v.parts) mine);
            each_view = each_set (Knows S f.log) views id w record { seen = prefix_refl f.log; also = k.also; own = λ _. k.own live; within = λ _. k.own live; part = λ _. k.part live; maker = λ _. k.maker live; turn = (refl, refl) } (λ j u _ e. f.each_view j u e);
            whole = whole_set f.log views id v w at f.whole (λ _. (tt, refl));
            numbers = below_more f.log _ _ f.numbers (omega (arith, length-set views id w));
            lawful = f.lawful;
            deep = length-set homes 0 none ∙ f.deep;
            home = λ e. absurd (omega arith);
            out = λ _. set_here homes 0 none (omega (arith, f.deep));
          },
        )

    -- count: the group joins the history
    pub tallies : (t : ℕ) (g : G) → v.stage ≡ Turn t → may_add v.own g → Fair stands may_add T S (C + 1) homes (set views id (with_group id t g v))
    tallies t g mine may =
        let w : View G = with_group id t g v in
        let k = f.each_view id v at in
        let live : Live v.stage = subst Live (sym mine) tt in
        let turn : Holds S f.log v.seen (Turn t) = subst (Holds S f.log v.seen) mine k.turn in
        let here : has S v.stage ≡ 1 = ap (has S) mine ∙ has_here S t turn.0 in
        let log : List (Logged G) = f.log ++ made id g ∷ [] in
        let seen : w.seen ≡ log = ap (λ (l : List (Logged G)). l ++ made id g ∷ []) turn.1 in
        let inside : id < length views = at_below views id v at in
        let turns = sum_set holds_turn views id v w at in
        let one : holding v.stage ≡ 1 = ap holding mine in
        let some_turn = sum_at holds_turn views id v at in
        record {
          log = log;
          tickets = λ x. let s = sum_set (has_ticket x) views id v w at in let same : has x v.stage ≡ has x (Counted t) = ap (has x) mine in let old = f.tickets x in omega arith;
          outs = omega (arith, f.outs, sum_set is_out views id v w at, ap drawn mine);
          few = f.few;
          long = omega (arith, f.long, length-append f.log (made id g ∷ []));
          counts = omega (arith, f.counts, sum_set has_counted views id v w at, ap counted mine);
          parts = omega (arith, f.parts, sum_set parts_of views id v w at, ap (weight v.parts) mine);
          each_view = each_set (Knows S log) views id w
              record {
                seen = subst (λ (l : List (Logged G)). IsPrefix l log) (sym seen) (prefix_refl log);
                also = prefix_more v.also f.log (made id g ∷ []) k.also;
                own = λ _. made_by_mine id g f.log ∙ ap (λ (l : List G). l ++ g ∷ []) (k.own live);
                within = λ _. made_by_mine id g v.seen ∙ ap (λ (l : List G). l ++ g ∷ []) (k.within live);
                part = λ _. k.part live;
                maker = λ _. k.maker live;
                turn = (turn.0, seen);
              }
              (λ j u ne e. let q = f.each_view j u e in record {
                seen = prefix_more u.seen f.log (made id g ∷ []) q.seen;
                also = prefix_more u.also f.log (made id g ∷ []) q.also;
                own = λ l. made_by_other id j g f.log (λ is. ne (sym is)) ∙ q.own l;
                within = q.within;
                part = q.part;
                maker = q.maker;
                turn = holds_none S log u.seen u.stage (alone here j u ne e);
              });
          whole = (id, w, set_here views id w inside, tt, seen);
          numbers = below_more log _ _ (below_with f.log _ (made id g) f.numbers inside) (omega (arith, length-set views id w));
          lawful = Lawful_more may_add f.log (made id g) f.lawful (subst (λ (l : List G). may_add l g) (sym (k.own live)) may);
          deep = f.deep;
          home = λ e. absurd (omega arith);
          out = λ _. f.out (omega arith);
        }

    -- serve: the value is at home again, and the next ticket is served
    pub serves : (t : ℕ) (kept : K) → v.stage ≡ Counted t → t < 2 ^ 62 → stands kept (groups v.seen) → Fair stands may_add T (S + 1) C (set homes 0 (some kept)) (set views id (at_stage Idle v))
    serves t kept mine small stood =
        let w : View G = at_stage Idle v in
        let k = f.each_view id v at in
        let live : Live v.stage = subst Live (sym mine) tt in
        let turn : Holds S f.log v.seen (Counted t) = subst (Holds S f.log v.seen) mine k.turn in
        let here : has S v.stage ≡ 1 = ap (has S) mine ∙ has_here S t turn.0 in
        let after : sum_by holds_turn (set views id w) ≡ 0 = no_turn w here refl in
        let drawn_one : drawn v.stage ≡ 1 = ap drawn mine in
        let below : S < T = omega (arith, f.outs, sum_at is_out views id v at) in
        record {
          log = f.log;
          tickets = λ x. let s = sum_set (has_ticket x) views id v w at in let same : has x v.stage ≡ has x (Counted S) = ap (has x) mine ∙ ap (λ (y : ℕ). has x (Counted y)) turn.0 in let old = f.tickets x in omega (arith, window_less S T x below);
          outs = omega (arith, f.outs, sum_set is_out views id v w at);
          few = omega (arith, turn.0);
          long = f.long;
          counts = omega (arith, f.counts, sum_set has_counted views id v w at, ap counted mine);
          parts = omega (arith, f.parts, sum_set parts_of views id v w at, ap (weight v.parts) mine);
          each_view = each_set (Knows (S + 1) f.log) views id w record { seen = k.seen; also = k.also; own = λ _. k.own live; within = λ _. k.within live; part = λ _. k.part live; maker = λ _. k.maker live; turn = tt }
              (λ j u ne e. let q = f.each_view j u e in record { seen = q.seen; also = q.also; own = q.own; within = q.within; part = q.part; maker = q.maker; turn = holds_none (S + 1) f.log u.seen u.stage (alone here j u ne e) });
          whole = whole_set f.log views id v w at f.whole (λ e. (tt, e));
          numbers = below_more f.log _ _ f.numbers (omega (arith, length-set views id w));
          lawful = f.lawful;
          deep = length-set homes 0 (some kept) ∙ f.deep;
          home = λ _. (kept, set_here homes 0 (some kept) (omega (arith, f.deep)), subst (λ (l : List (Logged G)). stands kept (groups l)) turn.1 stood);
          out = λ e. absurd (omega arith);
        }

    -- split: the views l and r have together the parts of v
    pub splits : (l r : View G) → v.stage ≡ Idle → drawn l.stage ≡ 0 → drawn r.stage ≡ 0 → weight l.parts l.stage + weight r.parts r.stage ≡ v.parts
        → Knows S f.log id l → Knows S f.log (length views) r → (v.seen ≡ f.log → (Live l.stage × (l.seen ≡ f.log)) ⊎ (Live r.stage × (r.seen ≡ f.log)))
        → Fair stands may_add T S C homes (set views id l ++ r ∷ [])
    splits l r idle zl zr sum kl kr goes =
        let vs : List (View G) = set views id l in
        let wide : length vs ≡ length views = length-set views id l in
        let zv : drawn v.stage ≡ 0 = ap drawn idle in
        let turns : sum_by holds_turn (vs ++ r ∷ []) ≡ sum_by holds_turn views = omega (arith, sum_by_push holds_turn vs r, sum_set holds_turn views id v l at, holding-le-drawn v.stage, holding-le-drawn l.stage, holding-le-drawn r.stage) in
        let inside : id < length views = at_below views id v at in
        let last : get_elem? (vs ++ r ∷ []) (length views) ≡ some r = at_last vs r (length views) wide in
        let old : (w : SeenWhole f.log views) → SeenWhole f.log (vs ++ r ∷ []) = λ w. dite (ℕ_discrete w.0 id)
        (λ is.
        let same : w.1 ≡ v = some-injective w.1 v (sym w.2 ∙ ap (get_elem? views) is ∙ at) in
        elim (goes (ap (λ (y : View G). y.seen) (sym same) ∙ w.4))
        [ inl h ↦ (id, l, at_longer vs (r ∷ []) id l (set_here views id l inside), h.0, h.1) | inr h ↦ (length views, r, last, h.0, h.1) ])
        (λ ne. (w.0, w.1, at_longer vs (r ∷ []) w.0 w.1 (set_else views id w.0 l ne ∙ w.2), w.3, w.4)) in
        record {
          log = f.log;
          tickets = λ x. let s = sum_set (has_ticket x) views id v l at in let p = sum_by_push (has_ticket x) vs r in let old = f.tickets x in omega (arith, has-le-drawn x v.stage, has-le-drawn x l.stage, has-le-drawn x r.stage);
          outs = omega (arith, f.outs, sum_set is_out views id v l at, sum_by_push is_out vs r);
          few = f.few;
          long = f.long;
          counts = omega (arith, f.counts, sum_set has_counted views id v l at, sum_by_push has_counted vs r, counted-le-drawn v.stage, counted-le-drawn l.stage, counted-le-drawn r.stage);
          parts = omega (arith, f.parts, sum_set parts_of views id v l at, sum_by_push parts_of vs r, ap (weight v.parts) idle);
          each_view = λ j u e. elim (at_end vs r u j e) [
            | inl h ↦ each_set (Knows S f.log) views id l kl (λ i y _ q. f.each_view i y q) j u h
            | inr h ↦ subst (λ (y : ℕ × View G). Knows S f.log y.0 y.1) (λ i. (sym (h.0 ∙ wide) i, h.1 i)) kr
          ];
          whole = old f.whole;
          numbers = below_more f.log _ _ f.numbers (omega (arith, length-append vs (r ∷ []), wide));
          lawful = f.lawful;
          deep = f.deep;
          home = λ e. f.home (sym turns ∙ e);
          out = λ e. f.out (omega arith);
        }

    -- join: v takes in the view u of another pass
    pub joins : (other : ℕ) (u : View G) → other ≢ id → get_elem? (set views id (met v u)) other ≡ some u → v.stage ≡ Idle → u.stage ≡ Idle
        → Fair stands may_add T S C homes (set (set views id (met v u)) other spent)
    joins other u ne there iv iu =
        let w : View G = met v u in
        let vs : List (View G) = set views id w in
        let us : List (View G) = set vs other spent in
        let was : get_elem? views other ≡ some u = sym (set_else views id other w ne) ∙ there in
        let k = f.each_view id v at in
        let q = f.each_view other u was in
        let live : Live v.stage = subst Live (sym iv) tt in
        let most = longest v.seen u.seen f.log k.seen q.seen in
        let inside : id < length views = at_below views id v at in
        let whole : f.log ≡ v.seen ⊎ f.log ≡ u.seen → w.seen ≡ f.log = λ o. prefix_whole w.seen f.log most.seen (elim o
        [ inl e ↦ omega (arith, ap length e, prefix_le v.seen w.seen most.first) | inr e ↦ omega (arith, ap length e, prefix_le u.seen w.seen most.second) ]) in
        let mine : get_elem? us id ≡ some w = set_else vs other id spent (λ e. ne (sym e)) ∙ set_here views id w inside in
        let o = f.whole in
        let zv : drawn v.stage ≡ 0 = ap drawn iv in
        let zu : drawn u.stage ≡ 0 = ap drawn iu in
        let turns : sum_by holds_turn us ≡ sum_by holds_turn views = omega (arith, sum_set holds_turn views id v w at, sum_set holds_turn vs other u spent there, holding-le-drawn v.stage, holding-le-drawn u.stage) in
        record {
          log = f.log;
          tickets = λ x. let a = sum_set (has_ticket x) views id v w at in let b = sum_set (has_ticket x) vs other u spent there in let old = f.tickets x in omega (arith, has-le-drawn x v.stage, has-le-drawn x u.stage);
          outs = omega (arith, f.outs, sum_set is_out views id v w at, sum_set is_out vs other u spent there);
          few = f.few;
          long = f.long;
          counts = omega (arith, f.counts, sum_set has_counted views id v w at, sum_set has_counted vs other u spent there, counted-le-drawn v.stage, counted-le-drawn u.stage);
          parts = omega (arith, f.parts, sum_set parts_of views id v w at, sum_set parts_of vs other u spent there, ap (weight v.parts) iv, ap (weight u.parts) iu, ap (weight (v.parts + u.parts)) iv);
          each_view = each_set (Knows S f.log) vs other spent
              record { seen = (f.log, refl); also = (f.log, refl); own = λ l. absurd l; within = λ l. absurd l; part = λ l. absurd l; maker = λ l. absurd l; turn = tt }
              (λ j y _ e. each_set (Knows S f.log) views id w
              record {
                seen = most.seen;
                also = most.also;
                own = k.own;
                within = λ l. made_by_between id v.seen w.seen f.log v.own most.first most.seen (k.within l) (k.own l);
                part = λ l. let p = k.part l in omega arith;
                maker = k.maker;
                turn = subst (Holds S f.log w.seen) (sym iv) tt;
              }
              (λ i z _ h. f.each_view i z h) j y e);
          whole = dite (ℕ_discrete o.0 id)
              (λ is. (id, w, mine, live, whole (inl (sym (ap (λ (y : View G). y.seen) (some-injective v o.1 (sym at ∙ ap (get_elem? views) (sym is) ∙ o.2)) ∙ o.4)))))
              (λ no. dite (ℕ_discrete o.0 other)
              (λ is. (id, w, mine, live, whole (inr (sym (ap (λ (y : View G). y.seen) (some-injective u o.1 (sym was ∙ ap (get_elem? views) (sym is) ∙ o.2)) ∙ o.4)))))
              (λ no2. (o.0, o.1, set_else vs other o.0 spent no2 ∙ (set_else views id o.0 w no ∙ o.2), o.3, o.4)));
          numbers = below_more f.log _ _ f.numbers (omega (arith, length-set views id w, length-set vs other spent));
          lawful = f.lawful;
          deep = f.deep;
          home = λ e. f.home (sym turns ∙ e);
          out = λ e. f.out (omega arith);
        }

    -- where a view has all parts, no other goes on
    others_end : weight v.parts v.stage ≡ 4294967296 → (j : ℕ) (u : View G) → j ≢ id → get_elem? views j ≡ some u → ¬ Live u.stage
    others_end mine j u ne e = weightless u.parts u.stage (f.each_view j u e).part (omega (arith, sum_two parts_of views id j v u ne at e, f.parts))

    -- and that one has seen all of the history
    pub sees_all : weight v.parts v.stage ≡ 4294967296 → v.seen ≡ f.log
    sees_all mine =
        let o = f.whole in
        dite (ℕ_discrete o.0 id)
        (λ is. ap (λ (y : View G). y.seen) (some-injective v o.1 (sym at ∙ ap (get_elem? views) (sym is) ∙ o.2)) ∙ o.4)
        (λ ne. absurd (others_end mine o.0 o.1 ne o.2 o.3))

    -- who has all parts is the only one that goes on: the value is at home, and stands for what that view has seen
    pub closes : v.stage ≡ Idle → v.parts ≡ 4294967296 → (kept : K) × (get_elem? homes 0 ≡ some (some kept)) × stands kept (groups v.seen) × Lawful may_add v.seen
    closes idle all =
        let mine : weight v.parts v.stage ≡ 4294967296 = ap (weight v.parts) idle ∙ all in
        let z : holding v.stage ≡ 0 = ap holding idle in
        let none_turns : sum_by holds_turn views ≡ 0 = sum_none holds_turn views (λ j u e. dite (ℕ_discrete j id)
        (λ is. ap (λ (y : View G). holding y.stage) (some-injective u v (sym e ∙ ap (get_elem? views) is ∙ at)) ∙ z)
        (λ ne. ended_holds u.stage (others_end mine j u ne e))) in
        let seen : v.seen ≡ f.log = sees_all mine in
        let h = f.home none_turns in
        (h.0, h.1, subst (λ (l : List (Logged G)). stands h.0 (groups l)) (sym seen) h.2, subst (Lawful may_add) (sym seen) f.lawful)

  -- a new pass, whose number is the number of passes made
  pub fresh_knows : (T S C : ℕ) (homes : List (Option K)) (views : List (View G)) (f : Fair stands may_add T S C homes views) (maker parts : ℕ) (seen : List (Logged G)) → IsPrefix seen f.log → 0 < parts → maker ≢ length views
      → Knows S f.log (length views) (fresh maker parts seen)
  fresh_knows T S C homes views f maker parts seen p some_part apart =
      let nothing : made_by (length views) f.log ≡ [] = made_by_none (length views) (length views) f.log f.numbers (omega arith) in
      record { seen = p; also = (f.log, refl); own = λ _. nothing; within = λ _. front_none (length views) seen f.log p nothing; part = λ _. some_part; maker = λ _. apart; turn = tt }

  -- the gate at its start
  first_knows : (j : ℕ) (v : View G) → get_elem? (first_view ∷ []) j ≡ some v → Knows 0 [] j v
  first_knows zero v e = subst (Knows 0 [] 0) (some-injective first_view v e) record { seen = ([], refl); also = ([], refl); own = λ _. refl; within = λ _. refl; part = λ _. (let p : 0 < 4294967296 = omega arith in p); maker = λ _ e. omega arith; turn = tt }
  first_knows (suc j) v e = absurd (some-ne-none v (sym e))

  nothing_at : (before after : List (Logged G)) (m : Logged G) → ¬ ([] ≡ before ++ m ∷ after)
  nothing_at [] after m e = cc
  nothing_at (b ∷ bs) after m e = cc

  pub opens : (kept : K) → stands kept [] → Fair stands may_add 0 0 0 (some kept ∷ []) (first_view ∷ [])
  opens kept stood = record {
    log = [];
    tickets = λ t. (let e : 0 ≡ cond (nat_le 0 t && nat_lt t 0) 1 0 = grind (arith, nat_tests) in e);
    outs = refl;
    few = omega arith;
    long = refl;
    counts = refl;
    parts = refl;
    each_view = first_knows;
    whole = (0, first_view, refl, tt, refl);
    numbers = λ k m e. absurd (some-ne-none m (sym e));
    lawful = λ before after m e. absurd (nothing_at before after m e);
    deep = refl;
    home = λ _. (kept, refl, stood);
    out = λ e. absurd (omega arith);
  }
