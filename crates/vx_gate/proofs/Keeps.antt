-- What each call on the table asks: its step keeps the rule, and tells what its play says.
use Rattle.std.proofs.Common.{◌≡◌, ℕ, ◌+◌, ◌-◌, ◌%◌, ◌^◌, ◌<◌, ◌≤◌, List, [], ◌∷◌, set, get_or, sym, refl, ap, subst, ◌∙◌, inl, inr, arith, length-set, get_or-set_same, get_or-set_other}
use mathlib.Core.Logic.{dite}
use mathlib.Core.Option.{Option, some, none}
use native.Mathlib.Decide.{ℕ_discrete}
use lib.ListN.{get_elem?}
use Rattle.atomic_table.specs.Table.{State, Me, step, keeps, takes, gives, put_back, Allows, Splits, Joins}
use Rattle.atomic_table.proofs.Lists.{set_again}
use Rattle.vx_gate.specs.declared.views.View.{View}
use Rattle.vx_gate.specs.declared.views.Stage.TheVariants.{Idle, Drawn, Turn, Counted, Spent}
use Rattle.vx_gate.specs.History.{groups, made_by}
use Rattle.vx_gate.specs.Rule.{Live, Fair, Ruled, drawn, weight}
use Rattle.vx_gate.specs.Steps.{at_stage, fresh, parted, with_group, met, spent, drew, looked, added, served, Learned}
use Rattle.vx_gate.proofs.Lists.{at_below, set_read}
use Rattle.vx_gate.proofs.Rules as rules

-- one more stays within 64 bits
one_more : (x y : ℕ) → x ≤ y → y < 2 ^ 63 → (x + 1) % 2 ^ 64 ≡ x + 1
one_more x y h k = let b : x + 1 < 2 ^ 64 = omega arith in omega (arith, b)

module _ {K G : Type 0} (stands : K → List G → Type 0) (may_add : List G → G → Type 0) where
  abbrev R : State K (View G) → Type 0
  R = Ruled stands may_add

  -- the rule, where the three numbers are others that are equal to them
  fair_at : (a b c x y z : ℕ) (homes : List (Option K)) (views : List (View G)) → a ≡ x → b ≡ y → c ≡ z → Fair stands may_add x y z homes views → Fair stands may_add a b c homes views
  fair_at a b c x y z homes views p q r f = subst (λ (t : ℕ × ℕ × ℕ). Fair stands may_add t.0 t.1 t.2 homes views) (λ i. (sym p i, sym q i, sym r i)) f

  -- a step that reads and changes nothing
  unmoved : (s : State K (View G)) (r : R s) (id i : ℕ) (v : View G) → get_elem? s.views id ≡ some v → R record { words = set s.words i (get_or s.words i 0); homes = s.homes; views = set s.views id v }
  unmoved s r id i v at = subst (λ (t : List ℕ × List (View G)). R record { words = t.0; homes = s.homes; views = t.1 }) (λ k. (sym (set_read s.words i 0) k, sym (set_again s.views id v at) k)) r

  pub draw_keeps : (n id : ℕ) (me : Me K (View G)) → me.0.stage ≡ Idle → Allows R n id me 0 (λ x. (x + 1) % 18446744073709551616) (drew (step n 0 1 0 none) me)
  draw_keeps n id me idle s r wide at fits =
      let x : ℕ = get_or s.words 0 0 in
      let f = r.fair in
      let more : (x + 1) % 18446744073709551616 ≡ x + 1 = one_more x x (omega arith) (omega (arith, f.outs, f.few, rules.outs_below stands may_add _ _ _ _ _ f)) in
      let ws : List ℕ = set s.words 0 ((x + 1) % 18446744073709551616) in (
        at_stage (Drawn x) me.0,
        keeps,
        tt,
        record {
          wide = length-set s.words 0 _ ∙ r.wide;
          fair = fair_at _ _ _ _ _ _ _ _ (get_or-set_same s.words 0 _ 0 (omega (arith, r.wide)) ∙ more) (get_or-set_other s.words 0 16 _ 0 (λ e. omega arith)) (get_or-set_other s.words 0 32 _ 0 (λ e. omega arith))
              (rules.draws stands may_add _ _ _ _ _ f id me.0 at idle);
        },
        refl,
      )

  -- the ticket that was found to be served is the seat's, or it isn't
  pub look_keeps : (told : K → List G → Type 0) (n id number t : ℕ) (me : Me K (View G)) → ((kept : K) (log : List G) → stands kept log → told kept log) → number ≡ id → me.0.stage ≡ Drawn t → me.1 ≡ []
      → Allows R n id me 16 (λ x. x) (looked told may_add number (step n 16 0 0 none) me)
  look_keeps told n id number t me tells is mine empty s r wide at fits =
      let x : ℕ = get_or s.words 16 0 in
      let f = r.fair in
      let k = f.each_view id me.0 at in
      let live : Live me.0.stage = subst Live (sym mine) tt in
      dite (ℕ_discrete x t)
      (λ hit.
      let got = rules.takes stands may_add _ _ _ _ _ f id me.0 at (mine ∙ ap Drawn (sym hit)) in
      let w : View G = record { stage = Turn x; maker = me.0.maker; parts = me.0.parts; seen = f.log; also = me.0.also; own = me.0.own } in (
        w,
        takes 0 got.0,
        got.1,
        subst (λ (ws : List ℕ). R record { words = ws; homes = set s.homes 0 none; views = set s.views id w }) (sym (set_read s.words 16 0)) record { wide = r.wide; fair = got.3 },
        λ u drawn. (
          (λ found. record {
            kept = got.0;
            slot = ap (λ (l : List (ℕ × K)). (0, got.0) ∷ l) empty;
            stage = ap Turn found;
            parts = refl;
            own = refl;
            begins = k.seen;
            mine = ap (λ j. made_by j f.log) is ∙ k.own live;
            lawful = f.lawful;
            stood = tells got.0 _ got.2;
            alone = λ all. sym (rules.sees_all stands may_add _ _ _ _ _ f id me.0 at (ap (weight me.0.parts) mine ∙ all));
          }),
          λ other. (let same : t ≡ u = cc in absurd (other (hit ∙ same))),
        ),
      ))
      (λ miss. (me.0, keeps, tt, unmoved s r id 16 me.0 at, λ u drawn. ((λ found. (let same : t ≡ u = cc in absurd (miss (found ∙ sym same)))), λ _. refl)))

  pub count_keeps : (n id number t : ℕ) (me : Me K (View G)) (adds : G → Type 0) → number ≡ id → me.0.stage ≡ Turn t → (g : G) × adds g × may_add me.0.own g
      → Allows R n id me 32 (λ x. (x + 1) % 18446744073709551616) (added adds number (step n 32 1 0 none) me)
  count_keeps n id number t me adds is mine h s r wide at fits =
      let x : ℕ = get_or s.words 32 0 in
      let f = r.fair in
      let more : (x + 1) % 18446744073709551616 ≡ x + 1 = one_more x x (omega arith) (omega (arith, f.counts, f.few, rules.counts_below stands may_add _ _ _ _ _ f)) in (
        with_group id t h.0 me.0,
        keeps,
        tt,
        record {
          wide = length-set s.words 32 _ ∙ r.wide;
          fair = fair_at _ _ _ _ _ _ _ _ (get_or-set_other s.words 32 0 _ 0 (λ e. omega arith)) (get_or-set_other s.words 32 16 _ 0 (λ e. omega arith)) (get_or-set_same s.words 32 _ 0 (omega (arith, r.wide)) ∙ more)
              (rules.tallies stands may_add _ _ _ _ _ f id me.0 at t h.0 mine h.2);
        },
        λ u turn. (let same : t ≡ u = cc in (h.0, h.1, λ i. (with_group (sym is i) (same i) h.0 me.0, me.1))),
      )

  pub serve_keeps : (n id t : ℕ) (me : Me K (View G)) → me.0.stage ≡ Counted t → t < 2 ^ 62 → (kept : K) × (me.1 ≡ (0, kept) ∷ []) × stands kept (groups me.0.seen)
      → Allows R n id me 16 (λ x. (x + 1) % 18446744073709551616) (served (step n 16 1 0 none) me)
  serve_keeps n id t me mine small h s r wide at fits =
      let x : ℕ = get_or s.words 16 0 in
      let f = r.fair in
      let more : (x + 1) % 18446744073709551616 ≡ x + 1 = one_more x x (omega arith) (omega (arith, f.few)) in
      let w : View G = at_stage Idle me.0 in
      let ws : List ℕ = set s.words 16 ((x + 1) % 18446744073709551616) in
      let after : R record { words = ws; homes = set s.homes 0 (some h.0); views = set s.views id w } = record {
        wide = length-set s.words 16 _ ∙ r.wide;
        fair = fair_at _ _ _ _ _ _ _ _ (get_or-set_other s.words 16 0 _ 0 (λ e. omega arith)) (get_or-set_same s.words 16 _ 0 (omega (arith, r.wide)) ∙ more) (get_or-set_other s.words 16 32 _ 0 (λ e. omega arith))
            (rules.serves stands may_add _ _ _ _ _ f id me.0 at t h.0 mine small h.2);
      } in
      (w, gives, tt, subst (λ (c : List (ℕ × K)). R record { words = ws; homes = put_back s.homes c; views = set s.views id w }) (sym h.1) after, refl)

  pub learn_keeps : (n id number : ℕ) (me : Me K (View G)) → number ≡ id → me.0.stage ≡ Idle → Allows R n id me 0 (λ x. x) (λ _ m. Learned may_add number me m)
  learn_keeps n id number me is idle s r wide at fits =
      let f = r.fair in
      let k = f.each_view id me.0 at in
      let live : Live me.0.stage = subst Live (sym idle) tt in
      (me.0, keeps, tt, unmoved s r id 0 me.0 at, record { same = refl; log = f.log; seen = k.seen; also = k.also; mine = ap (λ j. made_by j f.log) is ∙ k.own live; within = ap (λ j. made_by j me.0.seen) is ∙ k.within live; lawful = f.lawful; another = λ e. k.maker live (e ∙ is) })

  -- one part for a new pass
  pub part_splits : (id maker : ℕ) (v : View G) → maker ≡ id → v.stage ≡ Idle → 2 ≤ v.parts → Splits R id v (parted v) (fresh maker 1 v.seen)
  part_splits id maker v is idle two s r at =
      let f = r.fair in
      let k = f.each_view id v at in
      let live : Live v.stage = subst Live (sym idle) tt in
      record {
        wide = r.wide;
        fair = rules.splits stands may_add _ _ _ _ _ f id v at (parted v) (fresh maker 1 v.seen) idle (ap drawn idle) refl (omega (arith, ap (weight (v.parts - 1)) idle))
            record { seen = k.seen; also = k.also; own = k.own; within = k.within; part = λ _. omega arith; maker = k.maker; turn = k.turn }
            (rules.fresh_knows stands may_add _ _ _ _ _ f maker 1 v.seen k.seen (omega arith) (let b = at_below s.views id v at in λ e. omega arith))
            (λ e. inl (live, e));
      }

  -- all parts for the seat that closes the table
  pub leave_splits : (id maker : ℕ) (v : View G) → maker ≡ id → v.stage ≡ Idle → Splits R id v (at_stage Spent v) (fresh maker v.parts v.seen)
  leave_splits id maker v is idle s r at =
      let f = r.fair in
      let k = f.each_view id v at in
      let live : Live v.stage = subst Live (sym idle) tt in
      record {
        wide = r.wide;
        fair = rules.splits stands may_add _ _ _ _ _ f id v at (at_stage Spent v) (fresh maker v.parts v.seen) idle refl refl (omega arith)
            record { seen = k.seen; also = k.also; own = λ l. absurd l; within = λ l. absurd l; part = λ l. absurd l; maker = λ l. absurd l; turn = tt }
            (rules.fresh_knows stands may_add _ _ _ _ _ f maker v.parts v.seen k.seen (k.part live) (let b = at_below s.views id v at in λ e. omega arith))
            (λ e. inr (tt, e));
      }

  pub meet_joins : (id : ℕ) (v : View G) (other : ℕ) (u : View G) → v.stage ≡ Idle → u.stage ≡ Idle → Joins R id v other u (met v u) spent
  meet_joins id v other u iv iu s r at ne there = record { wide = r.wide; fair = rules.joins stands may_add _ _ _ _ _ r.fair id v at other u ne there iv iu }
