-- What a burst makes of a plan of which data alone is left.
use Rattle.std.proofs.Common.{◌≡◌, ℕ, zero, suc, ◌-◌, ◌<◌, ◌≤◌, Bool, true, false, not, cond, ◌&&◌, ◌||◌, ◌==◌, List, [], ◌∷◌, ◌++◌, length, take, drop, count_by, Option, Some, None, refl, sym, ap, ◌∙◌, subst, arith, length-append}
use Rattle.std.specs.Prelude.{slice_get}
use Rattle.std.specs.List.{list_any}
use Rattle.std.proofs.lemmas.Option.{same_Some}
use Rattle.std.proofs.lemmas.Bool.{or_parts, eq-eqb}
use Rattle.std.proofs.lemmas.Bool.Decides.{nat_tests}
use Rattle.std.proofs.lemmas.List.Folds.{list_any-append}
use Rattle.std.proofs.lemmas.List.Sums.{sum_by-cons}
use Rattle.std.proofs.Math.Bool.{and-true, and-false}
use Rattle.vx_488.specs.declared.transfers.Transfer.{Transfer}
use Rattle.vx_488.specs.declared.transfers.Transfer.TheVariants.{Put, Got}
use Rattle.vx_488.specs.declared.bursts.Stop.{Stop}
use Rattle.vx_488.specs.declared.bursts.Stop.TheVariants as why
use Rattle.vx_488.specs.Bursts.{ended, is_end, is_char, IsClear, StopsAt}
use Rattle.vx_488.proofs.Laws.Gets.{ended-behind}
use Rattle.vx_plan.specs.declared.tasks.Task.{Task}
use Rattle.vx_plan.specs.Plan.{Reading, Plan, is_stop, read_left, left_after}
use Rattle.vx_plan.specs.Tasks.{puts, just}
use Rattle.vx_plan.specs.Results.{gots, bytes_got, last_of}
use Rattle.vx_plan.specs.Places.{carries_data}
use Rattle.vx_plan.proofs.Laws.{left_after-append}
use Rattle.vx_plan.proofs.Laws.Fitting.{same_transfer-refl}

-- ---- puts

-- the bytes of a burst are those of a plan
pub ended-puts : (end : Bool) (bytes : List ℕ) → ended Put end bytes ≡ puts end bytes
ended-puts end [] = refl
ended-puts end (b ∷ []) = refl
ended-puts end (b ∷ c ∷ bs) = ap (λ ts. Put b false ∷ ts) (ended-puts end (c ∷ bs))

-- so are those of a front of them, with END where the front has the last one
pub front-puts : (end last : Bool) (bytes : List ℕ) (n : ℕ) → n ≤ length bytes → (n ≡ length bytes → last ≡ end) → (n < length bytes → last ≡ false)
    → puts last (take n bytes) ≡ take n (puts end bytes)
front-puts end last bytes zero h whole part = refl
front-puts end last [] (suc n) h whole part = absurd (omega arith)
front-puts end last (b ∷ []) (suc zero) h whole part = ap (λ (e : Bool). Put b e ∷ []) (whole refl)
front-puts end last (b ∷ []) (suc (suc n)) h whole part = absurd (omega arith)
front-puts end last (b ∷ c ∷ bs) (suc zero) h whole part = ap (λ (e : Bool). Put b e ∷ []) (part (omega arith))
front-puts end last (b ∷ c ∷ bs) (suc (suc n)) h whole part =
    ap (λ ts. Put b false ∷ ts) (front-puts end last (c ∷ bs) (suc n) (omega arith) (λ e. whole (omega (arith, e))) (λ e. part (omega (arith, e))))

-- a burst that has the last byte has its END
pub end-whole : (end last : Bool) (to long : ℕ) → last ≡ (end && (to == long)) → to ≡ long → last ≡ end
end-whole end last to long is same =
    let yes : (to == long) ≡ true = eq-eqb to long same in
    is ∙ ap (λ e. end && e) yes ∙ and-true end

-- and one that hasn't has none
pub end-part : (end last : Bool) (to long : ℕ) → last ≡ (end && (to == long)) → to < long → last ≡ false
end-part end last to long is less =
    let no_more : (to == long) ≡ false = grind (arith, nat_tests) in
    is ∙ ap (λ e. end && e) no_more ∙ and-false end

-- a plan goes along its own first transfers
pub just-goes : (ts : List Transfer) (n : ℕ) → left_after (Some (just ts)) (take n ts) ≡ Some (just (drop n ts))
just-goes ts zero = refl
just-goes [] (suc n) = refl
just-goes (t ∷ ts) (suc n) =
    ap (λ (fit : Bool). left_after (cond fit (Some (just ts)) None) (take n ts)) (same_transfer-refl t) ∙ just-goes ts n

-- so many data bytes, of which none was got
pub record IsData (task : Task) (run : List Transfer) (n : ℕ) : Type 0 where
  pub steps : count_by (λ t. not (carries_data task t)) run ≡ 0
  pub moves : count_by (carries_data task) run ≡ n

pub data-put : (task : Task) (end : Bool) (bytes : List ℕ) (n : ℕ) → n ≤ length bytes → IsData task (take n (puts end bytes)) n
data-put task end bytes zero h = record { steps = refl; moves = refl }
data-put task end [] (suc n) h = absurd (omega arith)
data-put task end (b ∷ []) (suc zero) h = record { steps = refl; moves = refl }
data-put task end (b ∷ []) (suc (suc n)) h = absurd (omega arith)
data-put task end (b ∷ c ∷ bs) (suc n) h =
    let more = data-put task end (c ∷ bs) n (omega arith) in
    let run = take n (puts end (c ∷ bs)) in
    record {
      steps = omega (arith, sum_by-cons (λ t. cond (not (carries_data task t)) 1 0) (Put b false) run, more.steps);
      moves = omega (arith, sum_by-cons (λ t. cond (carries_data task t) 1 0) (Put b false) run, more.moves);
    }

pub no-gots : (end : Bool) (bytes : List ℕ) (n : ℕ) → gots (take n (puts end bytes)) ≡ []
no-gots end bytes zero = refl
no-gots end [] (suc n) = refl
no-gots end (b ∷ []) (suc zero) = refl
no-gots end (b ∷ []) (suc (suc n)) = refl
no-gots end (b ∷ c ∷ bs) (suc n) = no-gots end (c ∷ bs) n

-- ---- gets

-- what is left of a read alone
abbrev pub reading_left : ℕ → Option ℕ → Plan
reading_left n stop = record { front = []; reading = Some (record { most = n; stop = stop }) }

same-char : (stop : Option ℕ) (b : ℕ) → is_stop stop b ≡ is_char stop b
same-char None b = refl
same-char (Some c) b = refl

-- a byte that doesn't end the read leaves one less
one-on : (n : ℕ) (stop : Option ℕ) (b : ℕ) (bs : List Transfer) → is_char stop b ≡ false → (n == 1) ≡ false
    → left_after (Some (reading_left n stop)) (Got b false ∷ bs) ≡ left_after (Some (reading_left (n - 1) stop)) bs
one-on n stop b bs clear more =
    ap (λ (e : Bool). left_after (Some (record { front = []; reading = cond (e || (n == 1)) None (Some (record { most = n - 1; stop = stop })) })) bs) (same-char stop b ∙ clear)
    ∙ ap (λ (e : Bool). left_after (Some (record { front = []; reading = cond (false || e) None (Some (record { most = n - 1; stop = stop })) })) bs) more

pub gets-on : (n : ℕ) (stop : Option ℕ) (bs : List ℕ) → IsClear stop bs → length bs < n
    → left_after (Some (reading_left n stop)) (ended Got false bs) ≡ Some (reading_left (n - length bs) stop)
gets-on n stop [] clear h = ap (λ m. Some (reading_left m stop)) (omega arith)
gets-on n stop (b ∷ []) clear h =
    let more : (n == 1) ≡ false = grind (arith, nat_tests) in
    one-on n stop b [] (or_parts (is_char stop b) false clear).0 more
gets-on n stop (b ∷ c ∷ bs) clear h =
    let more : (n == 1) ≡ false = grind (arith, nat_tests) in
    let parts = or_parts (is_char stop b) (list_any (is_char stop) (c ∷ bs)) clear in
    let less : n - 1 - length (c ∷ bs) ≡ n - length (b ∷ c ∷ bs) = omega arith in
    one-on n stop b (ended Got false (c ∷ bs)) parts.0 more
    ∙ gets-on (n - 1) stop (c ∷ bs) parts.1 (omega arith)
    ∙ ap (λ m. Some (reading_left m stop)) less

-- whichever byte comes next, something is left or the read is over
pub gets-one : (n : ℕ) (stop : Option ℕ) (front : List ℕ) (b : ℕ) (end : Bool) → IsClear stop front → length front < n
    → (left' : Plan) × (left_after (Some (reading_left n stop)) (ended Got end (front ++ b ∷ [])) ≡ Some left')
gets-one n stop front b end clear h =
    let r : Reading = record { most = n - length front; stop = stop } in (
      record { front = []; reading = read_left r b end },
      ap (left_after (Some (reading_left n stop))) (ended-behind end front b)
          ∙ left_after-append (Some (reading_left n stop)) (ended Got false front) (Got b end ∷ [])
          ∙ ap (λ left. left_after left (Got b end ∷ [])) (gets-on n stop front clear h),
    )

-- a list of some has a last one
pub split-last : (b : ℕ) (bs : List ℕ) → (front : List ℕ) × (last : ℕ) × (b ∷ bs ≡ front ++ last ∷ [])
split-last b [] = ([], b, refl)
split-last b (c ∷ bs) = let more = split-last c bs in (b ∷ more.0, more.1, ap (λ xs. b ∷ xs) more.2)

clear-front : (stop : Option ℕ) (front : List ℕ) (last : ℕ) → IsClear stop (front ++ last ∷ []) → IsClear stop front
clear-front stop front last clear =
    (or_parts (list_any (is_char stop) front) (list_any (is_char stop) (last ∷ [])) (sym (list_any-append (is_char stop) front (last ∷ [])) ∙ clear)).0

-- Where a burst of gets into room for what a read wants, or for a part of it, stopped with a byte, the read goes along its
-- bytes.
pub record Goes (n : ℕ) (stop : Option ℕ) (bytes : List ℕ) (end : Bool) : Type 0 where
  pub left : Plan
  pub goes : left_after (Some (reading_left n stop)) (ended Got end bytes) ≡ Some left
  pub some : 0 < length bytes

goes-last : (n : ℕ) (stop : Option ℕ) (bytes front : List ℕ) (last : ℕ) (end : Bool) → bytes ≡ front ++ last ∷ [] → IsClear stop front → length bytes ≤ n
    → Goes n stop bytes end
goes-last n stop bytes front last end e clear within =
    let one = gets-one n stop front last end clear (omega (arith, ap (λ (xs : List ℕ). length xs) e, length-append front (last ∷ []))) in
    record {
      left = one.0;
      goes = ap (λ bs. left_after (Some (reading_left n stop)) (ended Got end bs)) e ∙ one.1;
      some = omega (arith, ap (λ (xs : List ℕ). length xs) e, length-append front (last ∷ []));
    }

goes-full : (n : ℕ) (stop : Option ℕ) (bytes : List ℕ) → 0 < length bytes → length bytes ≤ n → IsClear stop bytes → Goes n stop bytes false
goes-full n stop [] some within clear = absurd (omega arith)
goes-full n stop (b ∷ bs) some within clear =
    let parts = split-last b bs in
    goes-last n stop (b ∷ bs) parts.0 parts.1 false parts.2 (clear-front stop parts.0 parts.1 (subst (IsClear stop) parts.2 clear)) within

pub goes-end : (n many : ℕ) (stop : Option ℕ) (bytes : List ℕ) → length bytes ≤ n → StopsAt stop many bytes why.End → Goes n stop bytes true
goes-end n many stop bytes within s = goes-last n stop bytes s.0 s.1 true s.2 s.3 within

pub goes-char : (n many : ℕ) (stop : Option ℕ) (bytes : List ℕ) → length bytes ≤ n → StopsAt stop many bytes why.Char → Goes n stop bytes false
goes-char n many stop bytes within s = goes-last n stop bytes s.0 s.1 false s.2 s.3 within

pub goes-filled : (n many : ℕ) (stop : Option ℕ) (bytes : List ℕ) → 0 < many → many ≤ n → StopsAt stop many bytes why.Full → Goes n stop bytes false
goes-filled n many stop bytes some fewer s = goes-full n stop bytes (omega (arith, some, s.0)) (omega (arith, fewer, s.0)) s.1

-- the bytes of a burst of gets are data
pub data-got : (task : Task) (end : Bool) (bytes : List ℕ) → IsData task (ended Got end bytes) (length bytes)
data-got task end [] = record { steps = refl; moves = refl }
data-got task end (b ∷ []) = record { steps = refl; moves = refl }
data-got task end (b ∷ c ∷ bs) =
    let more = data-got task end (c ∷ bs) in
    let run = ended Got end (c ∷ bs) in
    record {
      steps = omega (arith, sum_by-cons (λ t. cond (not (carries_data task t)) 1 0) (Got b false) run, more.steps);
      moves = omega (arith, sum_by-cons (λ t. cond (carries_data task t) 1 0) (Got b false) run, more.moves);
    }

-- and just the bytes that it got
pub bytes-ended : (end : Bool) (bytes : List ℕ) → bytes_got (ended Got end bytes) ≡ bytes
bytes-ended end [] = refl
bytes-ended end (b ∷ []) = refl
bytes-ended end (b ∷ c ∷ bs) = ap (λ xs. b ∷ xs) (bytes-ended end (c ∷ bs))

-- as many as there are
pub length-ended : (end : Bool) (bytes : List ℕ) → length (ended Got end bytes) ≡ length bytes
length-ended end [] = refl
length-ended end (b ∷ []) = refl
length-ended end (b ∷ c ∷ bs) = ap suc (length-ended end (c ∷ bs))

-- the last of them
pub last-value : (before : Option (ℕ × Bool)) (end : Bool) (bs : List ℕ) (b : ℕ) → slice_get bs (length bs - 1) ≡ Some b
    → last_of before (gots (ended Got end bs)) ≡ Some (b, end)
last-value before end [] b h = cc
last-value before end (x ∷ []) b h = ap (λ (y : ℕ). Some (y, end)) (same_Some x b h)
last-value before end (x ∷ y ∷ ys) b h =
    let less : suc (length (y ∷ ys) - 1) ≡ length (x ∷ y ∷ ys) - 1 = omega arith in
    last-value (Some (x, false)) end (y ∷ ys) b (ap (slice_get (x ∷ y ∷ ys)) less ∙ h)

-- a burst that didn't stop at END
pub not-end : (s : Stop) → (s ≡ why.End → ⊥) → is_end s ≡ false
not-end why.End h = absurd (h refl)
not-end why.Full h = refl
not-end why.Char h = refl
not-end why.Held h = refl
not-end why.Failed h = refl
