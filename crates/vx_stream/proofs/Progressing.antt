-- How the answers to messages go on: those so far, and those then.
use Rattle.std.proofs.Common.{◌≡◌, ◌≤◌, ℕ, List, [], ◌∷◌, ◌++◌, Option, refl, sym, ap, ◌∙◌, subst, append_assoc}
use Rattle.std.proofs.lemmas.List.{map-append}
use Rattle.std.proofs.lemmas.List.Concat.{flat_map-append}
use Rattle.vx_io_traits.proofs.Laws.Goings.{Goes-none, Goes-goes}
use Rattle.vx_io_traits.proofs.Laws.{rose_earlier}
use Rattle.vx_io_traits.specs.declared.links.Link.{Ghosts}
use Rattle.vx_stream.specs.Shown.{LinkShown, link_shown}
use Rattle.vx_stream.proofs.Laws.{link-none, link-goes}
use Rattle.vx_stream.specs.Answered.{Answered, AnswersAll, Progress, messages, replies}
use Rattle.vx_stream.specs.Stopping.{StopsReply}

-- the messages of what was answered, and of more of it
pub messages-append : (xs ys : List Answered) → messages (xs ++ ys) ≡ messages xs ++ messages ys
messages-append xs ys = map-append (λ (a : Answered). a.message) xs ys

-- replies that all went, and then more of them
pub wrote-then : (xs ys : List Answered) (written written' unsent : List ℕ) → replies xs ≡ written → replies ys ≡ written' ++ unsent
    → replies (xs ++ ys) ≡ (written ++ written') ++ unsent
wrote-then xs ys written written' unsent before after =
    flat_map-append (λ (a : Answered). a.reply) xs ys
    ∙ ap (λ l. l ++ replies ys) before
    ∙ ap (λ l. written ++ l) after
    ∙ sym (append_assoc written written' unsent)

-- the last reply of more messages stopped in its middle
pub stops-behind : (sa sb sc : LinkShown) (xs ys : List Answered) (unsent : List ℕ) → sa.send_faults ≤ sb.send_faults → StopsReply sb ys unsent sc
    → StopsReply sa (xs ++ ys) unsent sc
stops-behind sa sb sc xs ys unsent later stops = record {
  earlier = xs ++ stops.earlier;
  last = stops.last;
  sent = stops.sent;
  answered_are = ap (λ l. xs ++ l) stops.answered_are ∙ sym (append_assoc xs stops.earlier (stops.last ∷ []));
  cut = stops.cut;
  some = stops.some;
  rose = rose_earlier sa.send_faults sb.send_faults sc.send_faults later stops.rose;
}

module _ {S L : Type 0} (does : S → List ℕ → Option (List ℕ) → S → Type 0) (ways : Ghosts L) where
  -- some messages were answered, and then more
  answers-then : (server mid server' : S) (xs ys : List Answered) → AnswersAll does server xs mid → AnswersAll does mid ys server' → AnswersAll does server (xs ++ ys) server'
  answers-then server mid server' [] ys before after = subst (λ s. AnswersAll does s ys server') before after
  answers-then server mid server' (x ∷ xs) ys before after = (before.0, before.1, answers-then before.0 mid server' xs ys before.2 after)

  -- nothing came yet
  pub progress-none : (server : S) (link : L) → Progress does ways server link [] [] [] server link
  progress-none server link = record { answers = refl; bytes = Goes-none ways.stands link; goes = link-none (link_shown ways link) }

  -- some messages were answered, and then more
  pub progress-then : (server mid server' : S) (a b c : L) (xs ys : List Answered) (received received' written written' : List ℕ)
      → Progress does ways server a xs received written mid b → Progress does ways mid b ys received' written' server' c
      → Progress does ways server a (xs ++ ys) (received ++ received') (written ++ written') server' c
  progress-then server mid server' a b c xs ys received received' written written' before after = record {
    answers = answers-then server mid server' xs ys before.answers after.answers;
    bytes = Goes-goes ways.stands a b c written received written' received' before.bytes after.bytes;
    goes = link-goes (link_shown ways a) (link_shown ways b) (link_shown ways c) received received' before.goes after.goes;
  }
