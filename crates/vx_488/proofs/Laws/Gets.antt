-- A burst of gets, made one by one.
use Rattle.std.proofs.Common.{◌≡◌, ℕ, zero, suc, ◌+◌, ◌<◌, ◌≤◌, Bool, true, false, ◌||◌, ◌==◌, eqb, List, [], ◌∷◌, ◌++◌, map, length, take, drop, set, Option, None, Some, refl, sym, ap, ◌∙◌, subst, arith}
use Rattle.std.specs.List.{list_any}
use Rattle.std.specs.Option.{option_eq}
use Rattle.std.proofs.lemmas.Bool.Decides.{nat_tests}
use Rattle.std.proofs.lemmas.List.{map-append, append-nil}
use Rattle.std.proofs.lemmas.List.Folds.{list_any-append}
use Rattle.vx_488.specs.declared.transfers.Transfer.TheVariants.{Got}
use Rattle.vx_488.specs.declared.asks.Ask.TheVariants as ask
use Rattle.vx_488.specs.declared.asks.GetOut.TheVariants as get
use Rattle.vx_488.specs.declared.bursts.Stop.{Stop}
use Rattle.vx_488.specs.declared.bursts.Stop.TheVariants as stop
use Rattle.vx_488.specs.Means.{Means}
use Rattle.vx_488.specs.Steps.{Step, Went, Held, Failed, get_step}
use Rattle.vx_488.specs.Walks.{StepsTo, Walk}
use Rattle.vx_488.specs.Bursts.{ended, gets_steps, is_char, IsClear, StopsAt}
use Rattle.vx_488.proofs.Laws.Puts.{path-append}

-- one more byte, with END or not, behind bytes without
pub ended-behind : (end : Bool) (bs : List ℕ) (b : ℕ) → ended Got end (bs ++ b ∷ []) ≡ ended Got false bs ++ Got b end ∷ []
ended-behind end [] b = refl
ended-behind end (c ∷ []) b = refl
ended-behind end (c ∷ d ∷ bs) b = ap (λ ts. Got c false ∷ ts) (ended-behind end (d ∷ bs) b)

-- a byte set behind a front
take-set-suc : (n : ℕ) (room : List ℕ) (b : ℕ) → n < length room → take (suc n) (set room n b) ≡ take n room ++ b ∷ []
take-set-suc n [] b h = absurd (omega arith)
take-set-suc zero (x ∷ room) b h = refl
take-set-suc (suc n) (x ∷ room) b h = ap (λ xs. x ∷ xs) (take-set-suc n room b (omega arith))

take-set : (n : ℕ) (room : List ℕ) (b : ℕ) → n < length room → take (n + 1) (set room n b) ≡ take n room ++ b ∷ []
take-set n room b h = let one : n + 1 ≡ suc n = omega arith in ap (λ m. take m (set room n b)) one ∙ take-set-suc n room b h

drop-set-suc : (n : ℕ) (room : List ℕ) (b : ℕ) → drop (suc n) (set room n b) ≡ drop 1 (drop n room)
drop-set-suc zero [] b = refl
drop-set-suc (suc n) [] b = refl
drop-set-suc zero (x ∷ room) b = refl
drop-set-suc (suc n) (x ∷ room) b = drop-set-suc n room b

drop-one : (n : ℕ) (xs : List ℕ) → drop (suc n) xs ≡ drop 1 (drop n xs)
drop-one zero xs = refl
drop-one (suc n) [] = refl
drop-one (suc n) (x ∷ xs) = drop-one n xs

-- behind it all is as it was
drop-set : (n : ℕ) (room begun : List ℕ) (b : ℕ) → drop n room ≡ drop n begun → drop (n + 1) (set room n b) ≡ drop (n + 1) begun
drop-set n room begun b h =
    let one : n + 1 ≡ suc n = omega arith in
    ap (λ m. drop m (set room n b)) one ∙ drop-set-suc n room b ∙ ap (drop 1) h ∙ sym (drop-one n begun) ∙ ap (λ m. drop m begun) (sym one)

pub take-long : (n : ℕ) (xs : List ℕ) → n ≤ length xs → length (take n xs) ≡ n
take-long zero xs h = refl
take-long (suc n) [] h = absurd (omega arith)
take-long (suc n) (x ∷ xs) h = ap suc (take-long n xs (omega arith))

-- So many bytes came, none with END and none the stop byte. They stand in the room, which is as it was behind them.
pub record GetsSoFar {B : Type 0} (means : B → Means) (through : B → Step → B → Type 0) (char : Option ℕ) (n : ℕ) (begun room : List ℕ) (old now : B) : Type 0 where
  pub walk : Walk means through old (map Went (ended Got false (take n room))) now
  pub asks : (means now).asks ≡ (means old).asks + n
  pub clear : IsClear char (take n room)
  pub rest : drop n room ≡ drop n begun
  pub long : length room ≡ length begun
  pub within : n ≤ length begun

pub gets-begin : {B : Type 0} (means : B → Means) (through : B → Step → B → Type 0) (char : Option ℕ) (room : List ℕ) (old : B)
    → GetsSoFar means through char 0 room room old old
gets-begin means through char room old = record { walk = refl; asks = omega arith; clear = refl; rest = refl; long = refl; within = omega arith }

-- what is known where a burst of gets stops
pub record GetsEnd {B : Type 0} (means : B → Means) (through : B → Step → B → Type 0) (char : Option ℕ) (n : ℕ) (why : Stop) (begun room : List ℕ) (old now : B) : Type 0 where
  pub walk : Walk means through old (gets_steps (take n room) why) now
  pub stops : StopsAt char (length begun) (take n room) why
  pub within : n ≤ length begun
  pub rest : drop n room ≡ drop n begun

module _ {B : Type 0} (means : B → Means) (through : B → Step → B → Type 0) (char : Option ℕ) (n : ℕ) (begun room : List ℕ) (old now : B)
    (far : GetsSoFar means through char n begun room old now) where
  -- the room is full
  pub gets-full : n ≡ length begun → GetsEnd means through char n stop.Full begun room old now
  gets-full e =
      let W : List Step → Type 0 = λ s. Walk means through old s now in
      record {
        walk = subst W (sym (append-nil _)) far.walk;
        stops = (take-long n room (omega (arith, far.long)) ∙ e, far.clear);
        within = far.within;
        rest = far.rest;
      }

  module _ (more : n < length begun) (after : B) where
    refused-short : length (take n room) < length begun
    refused-short = omega (arith, take-long n room (omega (arith, far.long)))

    -- the next was held
    pub gets-held : StepsTo means through now (get_step get.Held) after → GetsEnd means through char n stop.Held begun room old after
    gets-held steps = record {
      walk = path-append (StepsTo means through) old now after _ (Held ask.Get ∷ []) far.walk (after, steps, refl);
      stops = (refused-short, far.clear);
      within = far.within;
      rest = far.rest;
    }

    -- or failed
    pub gets-failed : StepsTo means through now (get_step get.Failed) after → GetsEnd means through char n stop.Failed begun room old after
    gets-failed steps = record {
      walk = path-append (StepsTo means through) old now after _ (Failed ask.Get ∷ []) far.walk (after, steps, refl);
      stops = (refused-short, far.clear);
      within = far.within;
      rest = far.rest;
    }

    -- it came
    module _ (b : ℕ) where
      taken : take (n + 1) (set room n b) ≡ take n room ++ b ∷ []
      taken = take-set n room b (omega (arith, far.long))

      behind : drop (n + 1) (set room n b) ≡ drop (n + 1) begun
      behind = drop-set n room begun b far.rest

      walked : (end : Bool) → StepsTo means through now (get_step (get.Byte b end)) after
          → Walk means through old (map Went (ended Got end (take (n + 1) (set room n b)))) after
      walked end steps =
          let W : List Step → Type 0 = λ s. Walk means through old s after in
          let made : map Went (ended Got end (take (n + 1) (set room n b))) ≡ map Went (ended Got false (take n room)) ++ Went (Got b end) ∷ [] =
          ap (λ bs. map Went (ended Got end bs)) taken ∙ ap (map Went) (ended-behind end (take n room) b)
          ∙ map-append Went (ended Got false (take n room)) (Got b end ∷ []) in
          subst W (sym made) (path-append (StepsTo means through) old now after _ (Went (Got b end) ∷ []) far.walk (after, steps, refl))

      -- with END
      pub gets-end : StepsTo means through now (get_step (get.Byte b true)) after → GetsEnd means through char (n + 1) stop.End begun (set room n b) old after
      gets-end steps =
          let W : List Step → Type 0 = λ s. Walk means through old s after in
          record {
            walk = subst W (sym (append-nil _)) (walked true steps);
            stops = (take n room, b, taken, far.clear);
            within = omega arith;
            rest = behind;
          }

      -- it is the stop byte
      pub gets-char : is_char char b ≡ true → StepsTo means through now (get_step (get.Byte b false)) after
          → GetsEnd means through char (n + 1) stop.Char begun (set room n b) old after
      gets-char is steps =
          let W : List Step → Type 0 = λ s. Walk means through old s after in
          record {
            walk = subst W (sym (append-nil _)) (walked false steps);
            stops = (take n room, b, taken, far.clear, is);
            within = omega arith;
            rest = behind;
          }

      -- it is another
      pub gets-next : length (set room n b) ≡ length room → is_char char b ≡ false → StepsTo means through now (get_step (get.Byte b false)) after
          → GetsSoFar means through char (n + 1) begun (set room n b) old after
      gets-next long is steps =
          record {
            walk = walked false steps;
            asks = omega (arith, far.asks, ap (λ (m : Means). m.asks) steps.0);
            clear = ap (list_any (is_char char)) taken ∙ list_any-append (is_char char) (take n room) (b ∷ [])
                ∙ ap (λ c. c || (is_char char b || false)) far.clear ∙ ap (λ c. false || (c || false)) is;
            rest = behind;
            long = long ∙ far.long;
            within = omega arith;
          }

turned : (m n : ℕ) → (m == n) ≡ (n == m)
turned m n = grind (arith, nat_tests)

-- whether a byte is the stop byte, computed by comparing the two
pub char-is : (char : Option ℕ) (b : ℕ) → is_char char b ≡ option_eq eqb char (Some b)
char-is None b = refl
char-is (Some c) b = turned b c
