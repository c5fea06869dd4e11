-- How many connections come up and go down by lists of events.
use Rattle.std.proofs.Common.{◌≡◌, ◌+◌, false, cond, List, [], ◌∷◌, ◌++◌, refl, ap, arith}
use Rattle.std.specs.List.{All}
use Rattle.std.proofs.lemmas.List.Concat.{flat_map-append}
use Rattle.std.proofs.lemmas.List.Elements.{All-head, All-tail}
use Rattle.std.proofs.lemmas.List.Sums.{sum_by-append}
use Rattle.vx_flow.specs.Event.{Event}
use Rattle.vx_group.specs.Groups.{Group, events_of}
use Rattle.vx_session.specs.Counting.{comes_up, goes_down, ups, downs, IsSteady}

-- ---- lists of events

-- one list of events after another
pub ups-append : (xs ys : List Event) → ups (xs ++ ys) ≡ ups xs + ups ys
ups-append xs ys = sum_by-append (λ e. cond (comes_up e) 1 0) xs ys

pub downs-append : (xs ys : List Event) → downs (xs ++ ys) ≡ downs xs + downs ys
downs-append xs ys = sum_by-append (λ e. cond (goes_down e) 1 0) xs ys

-- one event in front
pub ups-front : (e : Event) (es : List Event) → ups (e ∷ es) ≡ ups (e ∷ []) + ups es
ups-front e es = ups-append (e ∷ []) es

pub downs-front : (e : Event) (es : List Event) → downs (e ∷ es) ≡ downs (e ∷ []) + downs es
downs-front e es = downs-append (e ∷ []) es

-- groups, and then more of them
pub events_of-append : (xs ys : List Group) → events_of (xs ++ ys) ≡ events_of xs ++ events_of ys
events_of-append xs ys = flat_map-append (λ (g : Group). g.events) xs ys

-- ---- where no connection comes or goes

-- the event is neither
pub record IsNeither (e : Event) : Type 0 where
  pub no_up : comes_up e ≡ false
  pub no_down : goes_down e ≡ false

-- one event that is neither, and steady ones
pub front-steady : (e : Event) (es : List Event) → IsNeither e → IsSteady es → IsSteady (e ∷ es)
front-steady e es one rest = record {
  no_up =
      let first : ups (e ∷ []) ≡ 0 = ap (λ b. 0 + cond b 1 0) one.no_up in
      let more = ups-front e es in
      omega (arith, first, more, rest.no_up);
  no_down =
      let first : downs (e ∷ []) ≡ 0 = ap (λ b. 0 + cond b 1 0) one.no_down in
      let more = downs-front e es in
      omega (arith, first, more, rest.no_down);
}

-- events that are neither
pub all-steady : (es : List Event) → All IsNeither es → IsSteady es
all-steady [] all = record { no_up = refl; no_down = refl }
all-steady (e ∷ es) all = front-steady e es (All-head IsNeither e es all) (all-steady es (All-tail IsNeither e es all))

-- one list of steady events after another
pub append-steady : (xs ys : List Event) → IsSteady xs → IsSteady ys → IsSteady (xs ++ ys)
append-steady xs ys before behind = record {
  no_up = let more = ups-append xs ys in omega (arith, more, before.no_up, behind.no_up);
  no_down = let more = downs-append xs ys in omega (arith, more, before.no_down, behind.no_down);
}
