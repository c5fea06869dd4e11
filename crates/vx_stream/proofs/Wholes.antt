-- Whole records that are answered, and their replies.
use Rattle.std.proofs.Common.{◌≡◌, ℕ, Bool, true, false, List, [], ◌∷◌, Option, None, Some, length, take, refl, sym, ap, ◌∙◌, subst, append-nil}
use Rattle.std.specs.Prelude.{option_map}
use Rattle.vx_io_traits.specs.declared.links.Link.{Ghosts}
use Rattle.vx_stream.specs.Shown.{link_shown}
use Rattle.vx_stream.specs.Sending.{SendsAll, IsSent}
use Rattle.vx_stream.specs.Answered.{Answered, Progress}
use Rattle.vx_stream.specs.Pieces.{AnswersWhole}
use Rattle.vx_stream.specs.declared.ends.End.TheVariants as end
use Rattle.vx_stream.proofs.Progressing.{progress-none}
use Rattle.vx_stream.proofs.Laws.{took-none}

module _ {S L : Type 0} (does : S → List ℕ → Option (List ℕ) → S → Type 0) (ways : Ghosts L) (server server' : S) (a : L)
    (message kept room : List ℕ) (answer : Option ℕ) (same : message ≡ kept) (did : does server message (option_map (λ n. take n room) answer) server') where
  -- what an answer tells of the record that was whole
  pub did-kept : (said : Option ℕ) → answer ≡ said → does server kept (option_map (λ n. take n room) said) server'
  did-kept said is = subst (λ m. does server m (option_map (λ n. take n room) said) server') same
      (subst (λ o. does server message (option_map (λ n. take n room) o) server') is did)

  -- a message was answered, and the link took a front of its reply
  one-answered : (b : L) (len : ℕ) (all : Bool) → answer ≡ Some len → (sends : SendsAll ways a (take len room) all b)
      → Progress does ways server a (record { message = kept; reply = take len room } ∷ []) [] sends.sent server' b
  one-answered b len all is sends = record {
    answers = (server', did-kept (Some len) is, refl);
    bytes = sends.took;
    goes = sends.goes;
  }

  -- all of the reply went
  pub whole-sent : (b : L) (len : ℕ) (all : Bool) → answer ≡ Some len → all ≡ true → SendsAll ways a (take len room) all b
      → AnswersWhole does ways server a kept None server' b
  whole-sent b len all is went sends = record {
    answered = record { message = kept; reply = take len room } ∷ [];
    last = server';
    written = sends.sent;
    unsent = sends.unsent;
    progress = one-answered b len all is sends;
    wrote = append-nil (take len room) ∙ sends.cut;
    calls = sends.calls;
    ends = (refl, subst (IsSent (link_shown ways a) sends.unsent (link_shown ways b)) went sends.is_sent);
    left = refl;
  }

  -- the reply stopped in its middle
  pub whole-stops : (b : L) (len : ℕ) (all : Bool) → answer ≡ Some len → all ≡ false → SendsAll ways a (take len room) all b
      → AnswersWhole does ways server a kept (Some end.WriteFault) server' b
  whole-stops b len all is stopped sends =
      let one : Answered = record { message = kept; reply = take len room } in
      let left : IsSent (link_shown ways a) sends.unsent (link_shown ways b) false = subst (IsSent (link_shown ways a) sends.unsent (link_shown ways b)) stopped sends.is_sent in
      record {
        answered = one ∷ [];
        last = server';
        written = sends.sent;
        unsent = sends.unsent;
        progress = one-answered b len all is sends;
        wrote = append-nil (take len room) ∙ sends.cut;
        calls = sends.calls;
        ends = (refl, record { earlier = []; last = one; sent = sends.sent; answered_are = refl; cut = sends.cut; some = left.0; rose = left.1 });
        left = refl;
      }

  -- the message has no reply
  pub whole-junk : answer ≡ None → AnswersWhole does ways server a kept (Some (end.Junk (length message))) server' a
  whole-junk is = record {
    answered = [];
    last = server;
    written = [];
    unsent = [];
    progress = progress-none does ways server a;
    wrote = refl;
    calls = took-none ways a;
    ends = (refl, refl, ap length (sym same), did-kept None is);
    left = tt;
  }
