-- A lift, line by line.
use Rattle.std.proofs.Common.{◌≡◌, ℕ, ◌+◌, ◌≤◌, le_trans, List, [], ◌∷◌, ◌++◌, length, Option, Some, None, codes, refl, ap, sym, subst, ◌∙◌, arith, length-append, append-nil, append_assoc}
use Rattle.std.proofs.lemmas.List.{take-append-le}
use Rattle.std.specs.Io.KnownBytes.{Appends}
use Rattle.std.proofs.KnownBytes.{Appends-trans}
use Rattle.vx_text.proofs.Laws.Moved.{stops-behind}
use Rattle.vx_text.specs.Ends.{End}
use Rattle.vx_text.specs.TextLines.{lines}
use Rattle.vx_text.specs.Writing.{StopsIn}
use Rattle.vx_script.specs.Command.{At}
use Rattle.vx_script.specs.Grammar.{Reading, Skipped, Does, Outside, reading}
use Rattle.vx_lift.specs.Lifted.{lifted_line, lifted_by, lifted_from, lifted, moment_behind, strange_by, strange_from, strange_line}
use Rattle.vx_lift.specs.LineLifted.{IsInside, IsLifted}

-- a lift under way: so many lines are lifted behind the head, this text is what is left, and this is the greatest moment so far
pub record UnderWay (script rest : List ℕ) (count moment : ℕ) (before after : End) : Type 0 where
  pub front : List ℕ
  pub all : lifted script ≡ front ++ lifted_from moment (lines rest)
  pub strange : strange_line script ≡ strange_from (count + 1) (lines rest)
  pub written : Appends before.bytes after.bytes front
  pub counted : before.faults ≤ after.faults

-- ---- what was written

-- the sink failed in a text, and so in one that goes on behind it
pub stops-within : (before after : End) (xs ys : List ℕ) → StopsIn before after xs → StopsIn before after (xs ++ ys)
stops-within before after xs ys stops =
    let len = length-append xs ys in
    let within : stops.count ≤ length xs = stops.within in
    record {
      rose = stops.rose;
      count = stops.count;
      within = omega arith;
      taken = subst (Appends before.bytes after.bytes) (sym (take-append-le stops.count xs ys within)) stops.taken;
    }

-- ---- what a line is lifted to

-- it stands in front of what the lines behind it are lifted to
in_front : (moment : ℕ) (line : List ℕ) (said : Reading) (behind : List ℕ) → IsInside said → lifted_by moment line said behind ≡ lifted_by moment line said [] ++ behind
in_front moment line Skipped behind inside = refl
in_front moment line (Does (At later)) behind inside = refl
in_front moment line (Does _) behind inside = sym (ap (λ xs. xs ++ behind) (append-nil (lifted_line moment line)))
in_front moment line Outside behind inside = absurd inside

-- whatever the line says, it is a front of both
front_of_both : (moment : ℕ) (line : List ℕ) (said : Reading) (behind : List ℕ) → (more : List ℕ) × (lifted_by moment line said behind ≡ lifted_by moment line said [] ++ more)
front_of_both moment line Outside behind = ([], refl)
front_of_both moment line Skipped behind = (behind, refl)
front_of_both moment line (Does command) behind = (behind, in_front moment line (Does command) behind tt)

-- a line inside the grammar isn't the first outside it
passed : (n : ℕ) (said : Reading) (behind : Option ℕ) → IsInside said → strange_by n said behind ≡ behind
passed n Skipped behind inside = refl
passed n (Does command) behind inside = refl
passed n Outside behind inside = absurd inside

-- what is left to lift is the next line, and what stands behind it
next-lifted : (script rest line behind front : List ℕ) (moment : ℕ) → lifted script ≡ front ++ lifted_from moment (lines rest) → lines rest ≡ line ∷ lines behind
    → lifted script ≡ front ++ lifted_by moment line (reading line) (lifted_from (moment_behind moment (reading line)) (lines behind))
next-lifted script rest line behind front moment all cut = all ∙ ap (λ ls. front ++ lifted_from moment ls) cut

next-strange : (script rest line behind : List ℕ) (count : ℕ) → strange_line script ≡ strange_from (count + 1) (lines rest) → lines rest ≡ line ∷ lines behind
    → strange_line script ≡ strange_by (count + 1) (reading line) (strange_from (count + 1 + 1) (lines behind))
next-strange script rest line behind count strange cut = strange ∙ ap (λ ls. strange_from (count + 1) ls) cut

-- ---- a lift begins, goes on, and ends

pub begun : (script : List ℕ) (before after : End) → Appends before.bytes after.bytes (codes "vxscript 2\n") → before.faults ≤ after.faults → UnderWay script script 0 0 before after
begun script before after written counted = record { front = codes "vxscript 2\n"; all = refl; strange = refl; written = written; counted = counted }

pub goes-on : (script rest line behind : List ℕ) (count moment greatest : ℕ) (before mid after : End) → UnderWay script rest count moment before mid
    → lines rest ≡ line ∷ lines behind → IsLifted moment line (reading line) greatest mid after → mid.faults ≤ after.faults → UnderWay script behind (count + 1) greatest before after
goes-on script rest line behind count moment greatest before mid after u cut l more =
    let text = lifted_by moment line (reading line) [] in
    let later = lifted_from (moment_behind moment (reading line)) (lines behind) in
    record {
      front = u.front ++ text;
      all = next-lifted script rest line behind u.front moment u.all cut
          ∙ ap (λ xs. u.front ++ xs) (in_front moment line (reading line) later l.inside)
          ∙ sym (append_assoc u.front text later)
          ∙ ap (λ m. (u.front ++ text) ++ lifted_from m (lines behind)) (sym l.greatest_is);
      strange = next-strange script rest line behind count u.strange cut ∙ passed (count + 1) (reading line) (strange_from (count + 1 + 1) (lines behind)) l.inside;
      written = Appends-trans before.bytes mid.bytes after.bytes _ _ u.written l.written;
      counted = le_trans u.counted more;
    }

-- nothing was written behind the front, and there is nothing behind it
kept : (before mid after : Option (List ℕ)) (all front : List ℕ) → all ≡ front ++ [] → Appends before mid front → Appends mid after [] → Appends before after all
kept before mid after all front is written none = subst (Appends before after) (sym is) (Appends-trans before mid after _ _ written none)

-- at the end of the text the script was lifted
pub whole-lifted : (script rest : List ℕ) (count moment : ℕ) (before after : End) → UnderWay script rest count moment before after → rest ≡ []
    → (strange_line script ≡ None) × Appends before.bytes after.bytes (lifted script)
whole-lifted script rest count moment before after u at_end = (
  u.strange ∙ ap (λ xs. strange_from (count + 1) (lines xs)) at_end,
  subst (Appends before.bytes after.bytes) (sym (u.all ∙ ap (λ xs. u.front ++ lifted_from moment (lines xs)) at_end ∙ append-nil u.front)) u.written,
)

-- at a line outside the grammar the script was lifted as far as it goes
pub fault-lifted : (script rest line behind : List ℕ) (count moment : ℕ) (before mid : End) (after : Option (List ℕ)) → UnderWay script rest count moment before mid
    → lines rest ≡ line ∷ lines behind → (reading line ≡ Outside) × Appends mid.bytes after []
    → (strange_line script ≡ Some (count + 1)) × Appends before.bytes after (lifted script)
fault-lifted script rest line behind count moment before mid after u cut (outside, none) =
    let later = lifted_from (moment_behind moment (reading line)) (lines behind) in (
      next-strange script rest line behind count u.strange cut ∙ ap (λ said. strange_by (count + 1) said (strange_from (count + 1 + 1) (lines behind))) outside,
      kept before.bytes mid.bytes after (lifted script) u.front
          (next-lifted script rest line behind u.front moment u.all cut ∙ ap (λ said. u.front ++ lifted_by moment line said later) outside) u.written none,
    )

-- at a line in which the sink failed a front was written
pub cut-lifted : (script rest line behind : List ℕ) (count moment : ℕ) (before mid after : End) → UnderWay script rest count moment before mid → lines rest ≡ line ∷ lines behind
    → StopsIn mid after (lifted_by moment line (reading line) []) → StopsIn before after (lifted script)
cut-lifted script rest line behind count moment before mid after u cut stops =
    let text = lifted_by moment line (reading line) [] in
    let both = front_of_both moment line (reading line) (lifted_from (moment_behind moment (reading line)) (lines behind)) in
    subst (StopsIn before after)
    (sym (next-lifted script rest line behind u.front moment u.all cut ∙ ap (λ xs. u.front ++ xs) both.1 ∙ sym (append_assoc u.front text both.0)))
    (stops-within before after (u.front ++ text) both.0 (stops-behind before mid after u.front text u.written u.counted stops))
