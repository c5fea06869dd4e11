-- To be believed.
-- Messages that were answered, one after the other.
use Rattle.std.specs.Prelude.{◌≡◌, ℕ, List, [], ◌∷◌, map, Option, Some}
use Rattle.std.specs.List.{flat_map}
use Rattle.vx_io_traits.specs.Stands.{Goes}
use Rattle.vx_io_traits.specs.declared.links.Link.{Ghosts}
use Rattle.vx_stream.specs.Shown.{LinkGoes, link_shown}

-- a message that was answered, and the record of its reply
pub record Answered : Type 0 where
  pub message : List ℕ
  pub reply : List ℕ

abbrev pub messages : List Answered → List (List ℕ)
messages answered = map (λ a. a.message) answered

-- the records of the replies, one behind the other
abbrev pub replies : List Answered → List ℕ
replies answered = flat_map (λ a. a.reply) answered

-- What answers messages stood so, answered these, one after the other, and no other, and stands so. `does` is what one does.
abbrev pub AnswersAll : {S : Type 0} → (S → List ℕ → Option (List ℕ) → S → Type 0) → S → List Answered → S → Type 0
AnswersAll does server [] server' = server' ≡ server
AnswersAll {S} does server (one ∷ more) server' = (mid : S) × does server one.message (Some one.reply) mid × AnswersAll does mid more server'

-- what answers messages, and the link that they come on
pub record Conversation (S L : Type 0) : Type 0 where
  pub server : S
  pub link : L

-- These messages were answered. The link gave the bytes `received`, and took `written`.
pub record Progress {S L : Type 0} (does : S → List ℕ → Option (List ℕ) → S → Type 0) (ways : Ghosts L)
    (server : S) (link : L) (answered : List Answered) (received written : List ℕ) (server' : S) (link' : L) : Type 0 where
  pub answers : AnswersAll does server answered server'
  pub bytes : Goes ways.stands link link' written received
  pub goes : LinkGoes (link_shown ways link) received (link_shown ways link')
