-- What the calls of a gate return, from what their steps tell.
use Rattle.std.proofs.Common.{◌≡◌, ℕ, List, [], ◌∷◌, ◌++◌, length, get_or, sym, refl, ap, subst, ◌∙◌, arith}
use mathlib.Core.List.{IsPrefix}
use mathlib.Core.Option.{some, some-injective}
use lib.ListN.{get_elem?}
use Rattle.atomic_table.specs.Table.{Me, Final, Seen, opening}
use Rattle.atomic_table.specs.Seated.{TableId}
use Rattle.atomic_table.specs.declared.shared.Seat.{Seat}
use Rattle.vx_gate.specs.declared.views.Logged.{Logged}
use Rattle.vx_gate.specs.declared.views.View.{View}
use Rattle.vx_gate.specs.declared.views.Stage.{Stage}
use Rattle.vx_gate.specs.declared.views.Stage.TheVariants.{Idle, Drawn, Spent}
use Rattle.vx_gate.specs.History.{made, groups, made_by, Lawful}
use Rattle.vx_gate.specs.PassView.{PassView, GateId}
use Rattle.vx_gate.specs.Turning.{Fits, MayTurn, Turned}
use Rattle.vx_gate.specs.Rule.{Fair, Ruled}
use Rattle.vx_gate.specs.Steps.{at_stage, first_view, fresh, longer, shorter, met, Took, Learned}
use Rattle.vx_gate.specs.Places.{IsSame, Ran}
use Rattle.vx_gate.specs.Seats.{gate_at, Rests, pass_view, IsPass}
use Rattle.vx_gate.proofs.Lists.{prefix_refl, prefix_more, prefix_both}
use Rattle.vx_gate.proofs.Laws.Histories.{made_by_mine, Lawful_more}
use Rattle.vx_gate.proofs.Rules as rules

at_rest : (z y : GateId) (st : Stage) → Rests st → gate_at z st ≡ y → y.words ≡ 64 → (st ≡ Idle) × (z ≡ y)
at_rest z y Idle h e wide = (refl, e)
at_rest z y Spent h e wide = let w : 0 ≡ y.words = ap (λ (x : TableId). x.words) e in absurd (omega arith)
at_rest z y _ h e wide = absurd h

module _ {K G : Type 0} where
  -- a pass of a gate has an idle seat of its table
  pub seated : (s : Seat K (View G)) (p : PassView G) (y : GateId) → pass_view s ≡ p → IsPass s → p.gate ≡ y → y.words ≡ 64 → (s.me.0.stage ≡ Idle) × (s.table_id ≡ y)
  seated s p y shown is e wide = at_rest s.table_id y s.me.0.stage is.rests (ap (λ (x : PassView G). x.gate) shown ∙ e) wide

module _ {G : Type 0} where
  pub met_begins : (xs ys log : List (Logged G)) → IsPrefix (longer xs ys) log → IsPrefix (shorter xs ys) log → IsPrefix xs (longer xs ys) × IsPrefix ys (longer xs ys)
  met_begins xs ys log = rules.by_length (λ l s. IsPrefix l log → IsPrefix s log → IsPrefix xs l × IsPrefix ys l) xs ys
      (λ le p q. (prefix_refl xs, prefix_both ys xs log q p le)) (λ le p q. (prefix_both xs ys log q p le, prefix_refl ys))

module _ {K G : Type 0} (stands : K → List G → Type 0) (may_add : List G → G → Type 0) where
  -- the gate at its start
  pub opening_ruled : (words : List ℕ) (items : List K) (value : K) → length words ≡ 64 → get_or words 0 0 ≡ 0 → get_or words 16 0 ≡ 0 → get_or words 32 0 ≡ 0 → items ≡ value ∷ [] → stands value []
      → Ruled stands may_add (opening words items first_view)
  opening_ruled words items value wide a b c e stood = subst (λ (l : List K). Ruled stands may_add (opening words l first_view)) (sym e) record {
    wide = wide;
    fair = subst (λ (t : ℕ × ℕ × ℕ). Fair stands may_add t.0 t.1 t.2 (some value ∷ []) (first_view ∷ [])) (λ i. (sym a i, sym b i, sym c i)) (rules.opens stands may_add value stood);
  }

  -- the gate at its end: `last` took all parts of s, which became left, and closed the table
  pub closed : (s left last : Seat K (View G)) (pass : PassView G) (words : List ℕ) (items : List K) (value : K) → pass_view s ≡ pass → pass.parts ≡ 4294967296
      → left.me ≡ (at_stage Spent s.me.0, s.me.1) → last.me ≡ (fresh s.id s.me.0.parts s.me.0.seen, []) → Final (Seen (Ruled stands may_add) last.id last.me.0) words items
      → get_elem? items 0 ≡ some value → stands value (groups left.me.0.seen) × Lawful may_add left.me.0.seen
  closed s left last pass words items value shown all left_is last_is fin e =
      let seen : List (Logged G) = s.me.0.seen in
      let same : left.me.0.seen ≡ seen = ap (λ (m : Me K (View G)). m.0.seen) left_is in
      let end : Final (Seen (Ruled stands may_add) last.id (fresh s.id s.me.0.parts seen)) words items = subst (λ (m : Me K (View G)). Final (Seen (Ruled stands may_add) last.id m.0) words items) last_is fin in
      let h = rules.closes stands may_add _ _ _ _ _ end.1.0.fair last.id (fresh s.id s.me.0.parts seen) end.1.1 refl (ap (λ (p : PassView G). p.parts) shown ∙ all) in
      let stood : stands value (groups seen) = subst (λ k. stands k (groups seen)) (some-injective h.0 value (sym (end.4 0 h.0 h.1) ∙ e)) h.2 in
      (subst (λ (l : List (Logged G)). stands value (groups l)) (sym same) stood, subst (Lawful may_add) (sym same) h.3)

  -- after a meeting, both seen lists begin the one that is kept
  pub met_seen : (s t joined after : Seat K (View G)) (number : ℕ) (into other now : PassView G) → pass_view s ≡ into → pass_view t ≡ other → joined.me ≡ (met s.me.0 t.me.0, s.me.1)
      → Learned may_add number joined.me after.me → now ≡ pass_view after → IsPrefix into.seen now.seen × IsPrefix other.seen now.seen
  met_seen s t joined after number into other now first second is learned shown =
      let xs : List (Logged G) = s.me.0.seen in
      let ys : List (Logged G) = t.me.0.seen in
      let b = met_begins xs ys learned.log
      (subst (λ (l : List (Logged G)). IsPrefix l learned.log) (ap (λ (m : Me K (View G)). m.0.seen) is) learned.seen)
      (subst (λ (l : List (Logged G)). IsPrefix l learned.log) (ap (λ (m : Me K (View G)). m.0.also) is) learned.also) in
      let kept : now.seen ≡ longer xs ys = ap (λ (p : PassView G). p.seen) shown ∙ ap (λ (m : Me K (View G)). m.0.seen) (learned.same ∙ is) in
      let a : xs ≡ into.seen = ap (λ (p : PassView G). p.seen) first in
      let b' : ys ≡ other.seen = ap (λ (p : PassView G). p.seen) second in (
        subst (λ (l : List (Logged G) × List (Logged G)). IsPrefix l.0 l.1) (λ i. (a i, sym kept i)) b.0,
        subst (λ (l : List (Logged G) × List (Logged G)). IsPrefix l.0 l.1) (λ i. (b' i, sym kept i)) b.1,
      )

module _ {K G A R : Type 0} (stands : K → List G → Type 0) (may_add : List G → G → Type 0) (does : A → K → R → A → K → Type 0) (adds : A → K → R → A → K → G)
    (s0 s1 s2 s3 s4 : Seat K (View G)) (ticket : ℕ) (act : A) (answer : R) (act' : A)
    (is : IsPass s0) (idle : s0.me.0.stage ≡ Idle) (same1 : IsSame s0 s1) (same2 : IsSame s1 s2) (same3 : IsSame s2 s3) (same4 : IsSame s3 s4)
    (drew : s1.me ≡ (at_stage (Drawn ticket) s0.me.0, s0.me.1)) (took : Took stands may_add s1.id ticket s1.me s2.me) (ran : Ran stands does adds s2.id ticket s2.me act answer act' s3.me)
    (rests : s4.me ≡ (at_stage Idle s3.me.0, [])) where
  id4 : s4.id ≡ s0.id
  id4 = same4.1 ∙ same3.1 ∙ same2.1 ∙ same1.1

  seen4 : s4.me.0.seen ≡ s2.me.0.seen ++ made s0.id (adds act ran.before answer act' ran.after) ∷ []
  seen4 = ap (λ (m : Me K (View G)). m.0.seen) rests ∙ ap (λ (m : Me K (View G)). m.0.seen) ran.me ∙ ap (λ (n : ℕ). s2.me.0.seen ++ made n (adds act ran.before answer act' ran.after) ∷ []) (same2.1 ∙ same1.1)

  own4 : s4.me.0.own ≡ s0.me.0.own ++ adds act ran.before answer act' ran.after ∷ []
  own4 = ap (λ (m : Me K (View G)). m.0.own) rests ∙ ap (λ (m : Me K (View G)). m.0.own) ran.me ∙ ap (λ (l : List G). l ++ adds act ran.before answer act' ran.after ∷ []) (took.own ∙ ap (λ (m : Me K (View G)). m.0.own) drew)

  mine2 : made_by s0.id s2.me.0.seen ≡ s0.me.0.own
  mine2 = ap (λ n. made_by n s2.me.0.seen) (sym same1.1) ∙ took.mine ∙ ap (λ (m : Me K (View G)). m.0.own) drew

  order4 : made_by s4.id s4.me.0.seen ≡ s4.me.0.own
  order4 = ap (λ n. made_by n s4.me.0.seen) id4 ∙ ap (made_by s0.id) seen4 ∙ made_by_mine s0.id _ s2.me.0.seen ∙ ap (λ (l : List G). l ++ adds act ran.before answer act' ran.after ∷ []) mine2 ∙ sym own4

  pub turned_is : IsPass s4
  turned_is = record { empty = ap (λ (m : Me K (View G)). m.1) rests; rests = subst Rests (sym (ap (λ (m : Me K (View G)). m.0.stage) rests)) tt; order = order4 }

  fits2 : Fits may_add (pass_view s0) s2.me.0.seen
  fits2 = record { begins = subst (λ (l : List (Logged G)). IsPrefix l s2.me.0.seen) (ap (λ (m : Me K (View G)). m.0.seen) drew) took.begins; mine = mine2; within = is.order; lawful = took.lawful }

  stood2 : stands ran.before (groups s2.me.0.seen)
  stood2 = subst (λ k. stands k (groups s2.me.0.seen)) (ap (λ (l : List (ℕ × K)). (get_or l 0 (0, ran.before)).1) (sym took.slot ∙ ran.held)) took.stood

  pub turned : (asks : A → K → Type 0) → MayTurn stands may_add asks does adds (pass_view s0) act → Turned stands may_add does adds (pass_view s0) act answer act' (pass_view s4)
  turned asks law =
      let g : G = adds act ran.before answer act' ran.after in
      let may : may_add s0.me.0.own g = (law s2.me.0.seen ran.before fits2 stood2).1 answer act' ran.after ran.did in
      record {
        log = s2.me.0.seen;
        before = ran.before;
        after = ran.after;
        fits = fits2;
        stood = stood2;
        did = ran.did;
        seen = seen4;
        own = own4;
        begins = subst (IsPrefix s0.me.0.seen) (sym seen4) (prefix_more s0.me.0.seen s2.me.0.seen (made s0.id g ∷ []) fits2.begins);
        stands_now = subst (λ (l : List (Logged G)). stands ran.after (groups l)) (sym (ap (λ (m : Me K (View G)). m.0.seen) rests)) ran.stands_now;
        lawful = subst (Lawful may_add) (sym seen4) (Lawful_more may_add s2.me.0.seen (made s0.id g) took.lawful (subst (λ (l : List G). may_add l g) (sym mine2) may));
        order = order4;
        gate = ap (gate_at s4.table_id) (ap (λ (m : Me K (View G)). m.0.stage) rests) ∙ (same4.0 ∙ same3.0 ∙ same2.0 ∙ same1.0) ∙ sym (ap (gate_at s0.table_id) idle);
        number = id4;
        parts = ap (λ (m : Me K (View G)). m.0.parts) rests ∙ ap (λ (m : Me K (View G)). m.0.parts) ran.me ∙ took.parts ∙ ap (λ (m : Me K (View G)). m.0.parts) drew;
        alone = λ all. took.alone (ap (λ (m : Me K (View G)). m.0.parts) drew ∙ all) ∙ ap (λ (m : Me K (View G)). m.0.seen) drew;
      }
