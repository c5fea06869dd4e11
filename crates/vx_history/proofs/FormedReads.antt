-- Lines that are taken one behind the other, and the text that they are read from.
use Rattle.std.proofs.Common.{◌≡◌, ◌≢◌, ℕ, ◌+◌, ◌<◌, ◌^◌, Bool, true, false, cond, List, [], ◌∷◌, ◌++◌, Some, refl, sym, ap, ◌∙◌, subst, append_assoc, append-nil, codes, ne_eqb}
use Rattle.std.specs.Prelude.{◌==◌, flat_map}
use Rattle.std.specs.List.{All, onto_first}
use Rattle.std.proofs.lemmas.List.Elements.{All-head, All-tail}
use Rattle.vx_text.specs.TextLines.{lines}
use Rattle.vx_trace.specs.Text.{IsLine, is_timed, line_text2}
use Rattle.vx_trace.specs.Laws.{OneEnd2Law}
use Rattle.vx_flow.specs.Event.{Event}
use Rattle.vx_history.specs.Shown.{Timed, TraceShows}
use Rattle.vx_history.specs.CheckState.{CheckState}
use Rattle.vx_history.specs.Taking.{Taken, takes}
use Rattle.vx_history.specs.History.{Through, WalksBy, Walks}

-- what holds of each item, one by one
abbrev pub Each : {X : Type 0} → (X → Type 0) → List X → Type 0
Each P [] = Unit {0}
Each P (x ∷ xs) = P x × Each P xs

pub each-all : {X : Type 0} (P : X → Type 0) (xs : List X) → All P xs → Each P xs
each-all P [] h = tt
each-all P (x ∷ xs) h = (All-head P x xs h, each-all P xs (All-tail P x xs h))

-- ---- lines that are taken

-- all these lines, each with its moment, are taken one behind the other: they give these events, and this is known behind them
abbrev pub Reads : CheckState → List Timed → List Event → CheckState → Type 0
Reads s [] es after = (es ≡ []) × (s ≡ after)
Reads s (t ∷ ts) es after =
    (first : List Event) × (mid : CheckState) × (rest : List Event) × (takes s (Some t) ≡ Taken first mid) × (es ≡ first ++ rest) × Reads mid ts rest after

-- nothing is read
pub reads-none : (s : CheckState) → Reads s [] [] s
reads-none s = (refl, refl)

-- one line
pub reads-one : (s : CheckState) (t : Timed) (es : List Event) (after : CheckState) → takes s (Some t) ≡ Taken es after → Reads s (t ∷ []) es after
reads-one s t es after h = (es, after, [], h, sym (append-nil es), (refl, refl))

-- lines behind others
pub reads-append : (s : CheckState) (ts us : List Timed) (es fs : List Event) (mid after : CheckState) → Reads s ts es mid → Reads mid us fs after
    → Reads s (ts ++ us) (es ++ fs) after
reads-append s [] us es fs mid after (none, here) later =
    subst (λ xs. Reads s us (xs ++ fs) after) (sym none) (subst (λ m. Reads m us fs after) (sym here) later)
reads-append s (t ∷ ts) us es fs mid after (first, next, rest, took, all, more) later =
    (first, next, rest ++ fs, took, ap (λ xs. xs ++ fs) all ∙ append_assoc first rest fs, reads-append next ts us rest fs mid after more later)

-- ---- lines and their texts

-- a line has a text in version 2, at its moment
pub record IsTold (t : Timed) : Type 0 where
  pub is_line : IsLine t.line
  pub fits : t.moment < 2 ^ 64
  pub untimed : is_timed t.line ≡ false → t.moment ≡ 0

-- the text of lines
abbrev pub texts_of : List Timed → List ℕ
texts_of ts = flat_map (λ t. line_text2 t.moment t.line) ts

-- each of these texts is that of its line
abbrev pub ShowAll : List (List ℕ) → List Timed → Type 0
ShowAll [] [] = Unit {0}
ShowAll (text ∷ texts) (t ∷ ts) = TraceShows text (Some t) × ShowAll texts ts
ShowAll _ _ = ⊥

-- a text whose first line is known
first-line : (front rest : List ℕ) → All (λ b. b ≢ 10) front → lines (front ++ 10 ∷ rest) ≡ front ∷ lines rest
first-line [] rest free = refl
first-line (b ∷ front) rest free =
    let ne : b ≢ 10 = All-head (λ b. b ≢ 10) b front free in
    let later = first-line front rest (All-tail (λ b. b ≢ 10) b front free) in
    by (b == 10) (ne_eqb b 10 ne) later
  where
    by : (is : Bool) → is ≡ false → lines (front ++ 10 ∷ rest) ≡ front ∷ lines rest
        → cond is ([] ∷ lines (front ++ 10 ∷ rest)) (onto_first b (lines (front ++ 10 ∷ rest))) ≡ (b ∷ front) ∷ lines rest
    by true e later = cc
    by false e later = ap (onto_first b) later

-- the lines of a text of lines
pub record HasLines (ts : List Timed) : Type 0 where
  pub texts : List (List ℕ)
  pub lines_are : lines (texts_of ts) ≡ texts
  pub show : ShowAll texts ts

pub has-lines : OneEnd2Law → (ts : List Timed) → All IsTold ts → HasLines ts
has-lines law [] told = record { texts = []; lines_are = refl; show = tt }
has-lines law (t ∷ ts) told =
    let is = All-head IsTold t ts told in
    let rest = has-lines law ts (All-tail IsTold t ts told) in
    let end = law t.moment t.line is.fits is.is_line in
    record {
      texts = end.0 ∷ rest.texts;
      lines_are =
          ap (λ text. lines (text ++ texts_of ts)) end.1
          ∙ ap lines (append_assoc end.0 (codes "\n") (texts_of ts))
          ∙ first-line end.0 (texts_of ts) end.2
          ∙ ap (λ texts. end.0 ∷ texts) rest.lines_are;
      show = (record { is_line = is.is_line; fits = is.fits; text_is = end.1; untimed = is.untimed }, rest.show);
    }

-- texts of lines that are all taken are walked along
pub walks-reads : (n : ℕ) (s : CheckState) (texts : List (List ℕ)) (ts : List Timed) (es : List Event) (after : CheckState) → ShowAll texts ts → Reads s ts es after
    → Walks n s texts (Through es after)
walks-reads n s [] [] es after show (none, here) = ap (λ xs. Through xs after) none ∙ ap (Through []) (sym here)
walks-reads n s [] (t ∷ ts) es after show reads = absurd show
walks-reads n s (text ∷ texts) [] es after show reads = absurd show
walks-reads n s (text ∷ texts) (t ∷ ts) es after (shows, show) (first, mid, rest, took, all, more) = (
  Some t,
  shows,
  subst (WalksBy n (λ next later. Walks (n + 1) next texts later) (Through es after)) (sym took)
      (Through rest after, walks-reads (n + 1) mid texts ts rest after show more, ap (λ xs. Through xs after) all),
)
