-- The gateways of the program as they start, one for each instrument of the rack.
use Rattle.std.proofs.Common.{◌≡◌, ◌<◌, ℕ, suc, List, [], ◌∷◌, ◌++◌, map, length, Option, Result, Ok, Err, refl, sym, ap, ◌∙◌, subst, inl, inr, arith}
use Rattle.std.specs.List.{All, AllZip}
use Rattle.std.specs.Prelude.{remove, slice_index_or, is_ok, IfOk, IfSome, if◌then◌else◌}
use Rattle.std.specs.Result.{result_ok}
use Rattle.std.proofs.lemmas.List.{length-map}
use Rattle.std.proofs.lemmas.List.Elements.{All-nil, All-cons, All-head, All-tail}
use Rattle.vx_488.specs.declared.bus.Bus.{Ghosts}
use Rattle.vx_inst.specs.Behavior.{Behavior}
use Rattle.vx_lone.specs.Lone.{handed, IsOneOf}
use Rattle.vx_rack.specs.declared.Spare.{Spare}
use Rattle.vx_sim.specs.Occupants.{Seated, Boxed, handed_in}
use Rattle.vx_sim.specs.SimState.{SimState, first_state}
use Rattle.vx_sim.specs.Attaching.{IsAttached}
use Rattle.vx_core.specs.CoreState.{CoreState}
use Rattle.vx_core.specs.Standing.{Became}
use Rattle.vx_buses.specs.Starting.{place, Begins, AddsCore, AreFurnished}

-- the first of a list, and the rest
pub first-removed : {A : Type 0} (xs rest : List A) (x : A) → 0 < length xs → x ≡ slice_index_or xs 0 x → rest ≡ remove xs 0 → xs ≡ x ∷ rest
first-removed [] rest x some first rest_is = absurd (omega arith)
first-removed (y ∷ ys) rest x some first rest_is = ap (λ z. z ∷ ys) (sym first) ∙ ap (λ zs. x ∷ zs) (sym rest_is)

-- what stands behind four of four is nothing
none-behind : {A : Type 0} (a b c d : A) (xs : List A) → length (a ∷ b ∷ c ∷ d ∷ xs) ≡ 4 → xs ≡ []
none-behind a b c d [] len = refl
none-behind a b c d (x ∷ xs) len = absurd (omega arith)

-- what holds of each instrument of a rack holds of the first, which was taken, and of the rest
pub rack-taken : {I : Type 0} (behaves : I → Behavior) (nature : I → List ℕ) (may : Seated → Type 0) (rack rest : List (Spare I)) (spare : Spare I) → rack ≡ spare ∷ rest → All may (handed behaves nature rack)
    → may (handed_in behaves nature spare.inst) × All may (handed behaves nature rest)
rack-taken behaves nature may rack rest spare is all =
    let here = subst (λ r. All may (handed behaves nature r)) is all in
    (All-head may (handed_in behaves nature spare.inst) (handed behaves nature rest) here, All-tail may (handed_in behaves nature spare.inst) (handed behaves nature rest) here)

module _ {I B : Type 0} (g : Ghosts B) (stands : Seated → B → Type 0) (behaves : I → Behavior) (nature : I → List ℕ) where
  -- an instrument as it is handed in
  abbrev pub seat : Spare I → Seated
  seat s = handed_in behaves nature s.inst

  -- one more gateway, where there was room for it
  pub core-added : {U E : Type 0} (rack rest : List (Spare I)) (cores cores' : List (CoreState B)) (spare : Spare I) (core : CoreState B) (pushed : Result U E) (ok : Option U)
      → rack ≡ spare ∷ rest → Begins g stands (seat spare) core → cores' ≡ (if is_ok pushed then cores ++ core ∷ [] else cores) → ok ≡ result_ok pushed
      → IfSome ok (λ _. AddsCore g stands behaves nature rack cores rest cores')
  core-added rack rest cores cores' spare core (Ok u) ok rack_is begins items ok_is =
      subst (λ o. IfSome o (λ _. AddsCore g stands behaves nature rack cores rest cores')) (sym ok_is)
      (record { spare = spare; core = core; rack_is = rack_is; cores_are = items; begins = begins })
  core-added rack rest cores cores' spare core (Err e) ok rack_is begins items ok_is =
      subst (λ o. IfSome o (λ _. AddsCore g stands behaves nature rack cores rest cores')) (sym ok_is) tt

  -- four gateways, one after the other
  pub all-begin : (r0 r1 r2 r3 r4 : List (Spare I)) (c0 c1 c2 c3 c4 : List (CoreState B)) → length r0 ≡ 4 → c0 ≡ [] → AddsCore g stands behaves nature r0 c0 r1 c1
      → AddsCore g stands behaves nature r1 c1 r2 c2 → AddsCore g stands behaves nature r2 c2 r3 c3 → AddsCore g stands behaves nature r3 c3 r4 c4 → AllZip (Begins g stands) (map seat r0) c4
  all-begin r0 r1 r2 r3 r4 c0 c1 c2 c3 c4 four none a b c d =
      let rack = a.rack_is ∙ ap (λ xs. a.spare ∷ xs) (b.rack_is ∙ ap (λ xs. b.spare ∷ xs) (c.rack_is ∙ ap (λ xs. c.spare ∷ xs) d.rack_is)) in
      let rest = none-behind a.spare b.spare c.spare d.spare r4 (sym (ap length rack) ∙ four) in
      let whole = rack ∙ ap (λ xs. a.spare ∷ b.spare ∷ c.spare ∷ d.spare ∷ xs) rest in
      let one = a.cores_are ∙ ap (λ cs. cs ++ a.core ∷ []) none in
      let two = b.cores_are ∙ ap (λ cs. cs ++ b.core ∷ []) one in
      let three = c.cores_are ∙ ap (λ cs. cs ++ c.core ∷ []) two in
      let cores = d.cores_are ∙ ap (λ cs. cs ++ d.core ∷ []) three in
      subst (λ r. AllZip (Begins g stands) (map seat r) c4) (sym whole)
      (subst (λ cs. AllZip (Begins g stands) (seat a.spare ∷ seat b.spare ∷ seat c.spare ∷ seat d.spare ∷ []) cs) (sym cores)
      (a.begins, (b.begins, (c.begins, (d.begins, tt)))))

module _ {B : Type 0} (g : Ghosts B) (stands : Seated → B → Type 0) where
  -- as many gateways as instruments
  begun-length : (insts : List Seated) (cores : List (CoreState B)) → AllZip (Begins g stands) insts cores → length cores ≡ length insts
  begun-length [] [] all = refl
  begun-length [] (core ∷ cores) all = absurd all
  begun-length (inst ∷ insts) [] all = absurd all
  begun-length (inst ∷ insts) (core ∷ cores) all = ap suc (begun-length insts cores all.1)

  pub begun-four : {A : Type 0} (f : A → Seated) (rack : List A) (cores : List (CoreState B)) → length rack ≡ 4 → AllZip (Begins g stands) (map f rack) cores → length cores ≡ 4
  begun-four f rack cores four all = begun-length (map f rack) cores all ∙ length-map rack f ∙ four

  -- each of them became what it is by the history without a group
  pub begun-stand : (insts : List Seated) (cores : List (CoreState B)) → AllZip (Begins g stands) insts cores → All (λ (core : CoreState B). Became g.means g.through core core []) cores
  begun-stand [] [] all = All-nil _
  begun-stand [] (core ∷ cores) all = absurd all
  begun-stand (inst ∷ insts) [] all = absurd all
  begun-stand (inst ∷ insts) (core ∷ cores) all = All-cons (λ (core : CoreState B). Became g.means g.through core core []) core cores all.0.became (begun-stand insts cores all.1)

-- over simulated buses they are furnished
pub all-furnished : (g : Ghosts SimState) (insts : List Seated) (cores : List (CoreState SimState)) → AllZip (Begins g (λ inst bus. IsAttached place (Boxed inst) first_state bus)) insts cores → AreFurnished insts cores
all-furnished g [] [] all = tt
all-furnished g [] (core ∷ cores) all = absurd all
all-furnished g (inst ∷ insts) [] all = absurd all
all-furnished g (inst ∷ insts) (core ∷ cores) all = (record { interleaved = all.0.interleaved; bus = all.0.bus }, all-furnished g insts cores all.1)

-- what holds of a list holds of what was made of its values, in their order
pub order-kept : {A R E : Type 0} (P : A → Type 0) (values : A) (of : R → A) (r : Result R E) (o : Option R) → IfOk r (λ x. values ≡ of x) → o ≡ result_ok r → P values → IfSome o (λ x. P (of x))
order-kept P values of (Ok x) o order ok holds = subst (λ p. IfSome p (λ y. P (of y))) (sym ok) (subst P order holds)
order-kept P values of (Err e) o order ok holds = subst (λ p. IfSome p (λ y. P (of y))) (sym ok) tt

-- each instrument of a rack is one of it
pub all-own : (rack insts : List Seated) → rack ≡ insts → All (IsOneOf rack) insts
all-own rack insts same = subst (λ r. All (IsOneOf r) insts) (sym same) (own insts)
  where
    own : (insts : List Seated) → All (IsOneOf insts) insts
    own [] = All-nil _
    own (inst ∷ insts) = All-cons (IsOneOf (inst ∷ insts)) inst insts (inl (refl, refl)) (λ k d lt. inr (own insts k d lt))
