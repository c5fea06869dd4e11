-- A piece of a stream that is answered record by record.
use Rattle.std.proofs.Common.{◌≡◌, ◌≤◌, ◌<◌, ◌+◌, ℕ, true, false, List, [], ◌∷◌, ◌++◌, Option, None, Some, length, take, drop, refl, sym, ap, ◌∙◌, subst, append-nil, take-append-drop, length-drop, arith}
use Rattle.std.specs.Option.{is_some}
use Rattle.std.proofs.lemmas.Bool.{false≢true}
use Rattle.std.proofs.lemmas.List.{drop_all}
use Rattle.vx_record.specs.Buffer.{BufState, fresh}
use Rattle.vx_record.specs.Runs.{Stream, run, FedFrom}
use Rattle.vx_record.specs.declared.Feed.TheVariants.{More, Whole, TooLong}
use Rattle.vx_record.proofs.Laws.{brought-more, brought-whole, brought-long}
use Rattle.vx_io_traits.specs.declared.links.Link.{Ghosts}
use Rattle.vx_stream.specs.Shown.{LinkShown, link_shown}
use Rattle.vx_stream.specs.Answered.{Answered, Progress, messages, replies}
use Rattle.vx_stream.specs.Calling.{OnlyTook}
use Rattle.vx_stream.specs.Pieces.{WholeEnds, AnswersWhole, PieceEnds, AnswersPiece}
use Rattle.vx_stream.specs.declared.ends.End.{End}
use Rattle.vx_stream.specs.declared.ends.End.TheVariants as end
use Rattle.vx_stream.proofs.Progressing.{progress-none, progress-then, messages-append, wrote-then, stops-behind}
use Rattle.vx_stream.proofs.Laws.{took-none, took-then}
use Rattle.vx_stream.proofs.Runs.{at, run-fed}

-- a record at which the stream ends, ends the piece
ends-behind : (IsJunk : List ℕ → Type 0) (sa sb sc : LinkShown) (xs ys : List Answered) (kept behind unsent : List ℕ) (t : Stream) (limit : ℕ) (buffer : BufState) (stop : Option End)
    → is_some stop ≡ true → t ≡ at (messages xs ++ kept ∷ []) (fresh limit) → sa.send_faults ≤ sb.send_faults → WholeEnds IsJunk sb kept ys unsent sc stop
    → PieceEnds IsJunk sa (xs ++ ys) behind unsent t buffer sc stop
ends-behind IsJunk sa sb sc xs ys kept behind unsent t limit buffer None some is later ends = absurd (false≢true some)
ends-behind IsJunk sa sb sc xs ys kept behind unsent t limit buffer (Some (end.Junk n)) some is later ends =
    let same : messages xs ≡ messages (xs ++ ys) = sym (ap (λ l. messages (xs ++ l)) ends.0 ∙ ap messages (append-nil xs)) in
    (ends.1, kept, ap (λ u. u.records) is ∙ ap (λ ms. ms ++ kept ∷ []) same, ends.2, ends.3)
ends-behind IsJunk sa sb sc xs ys kept behind unsent t limit buffer (Some end.WriteFault) some is later ends = (
  ap (λ u. u.records) is ∙ sym (messages-append xs ys ∙ ap (λ ms. messages xs ++ ms) ends.0),
  ap (λ u. u.buffer.state) is,
  stops-behind sa sb sc xs ys unsent later ends.1,
)
ends-behind IsJunk sa sb sc xs ys kept behind unsent t limit buffer _ some is later ends = absurd ends

module _ {S L : Type 0} (does : S → List ℕ → Option (List ℕ) → S → Type 0) (ways : Ghosts L) (server : S) (a : L) (buffer : BufState)
    (piece : List ℕ) where
  -- The records of the piece up to a place were answered, and their replies went: the buffer waits for more there.
  pub record PieceSoFar (place : ℕ) (server' : S) (b : L) (buffer' : BufState) : Type 0 where
    pub answered : List Answered
    pub written : List ℕ
    pub progress : Progress does ways server a answered [] written server' b
    pub wrote : replies answered ≡ written
    pub calls : OnlyTook ways a written b
    pub ran : run (at [] buffer) (take place piece) ≡ at (messages answered) buffer'
    pub more : buffer'.state ≡ More

  -- before its first byte
  pub piece-none : buffer.state ≡ More → PieceSoFar 0 server a buffer
  piece-none more = record {
    answered = [];
    written = [];
    progress = progress-none does ways server a;
    wrote = refl;
    calls = took-none ways a;
    ran = refl;
    more = more;
  }

  -- a feed took the rest of the piece, and the buffer waits for more
  pub piece-more : (place took : ℕ) (server' : S) (b : L) (old new : BufState) → PieceSoFar place server' b old → FedFrom old piece place took new
      → new.state ≡ More → PieceSoFar (place + took) server' b new
  piece-more place took server' b old new so_far fed_so more = record {
    answered = so_far.answered;
    written = so_far.written;
    progress = so_far.progress;
    wrote = so_far.wrote;
    calls = so_far.calls;
    ran = run-fed (at [] buffer) piece place took (messages so_far.answered) old new so_far.ran so_far.more fed_so ∙ brought-more (messages so_far.answered) new more;
    more = more;
  }

  -- a record was whole, and it was answered
  pub piece-answered : (place took : ℕ) (mid server' : S) (b c : L) (old new buffer' : BufState) (stop : Option End) → PieceSoFar place mid b old
      → FedFrom old piece place took new → new.state ≡ Whole → AnswersWhole does ways mid b new.kept stop server' c → is_some stop ≡ false
      → buffer' ≡ fresh new.limit → PieceSoFar (place + took) server' c buffer'
  piece-answered place took mid server' b c old new buffer' stop so_far fed_so whole one goes_on begun =
      let went_on : AnswersWhole does ways mid b new.kept None server' c = went stop goes_on one in
      let answered = so_far.answered ++ went_on.answered in
      let all : messages so_far.answered ++ new.kept ∷ [] ≡ messages answered =
      sym (messages-append so_far.answered went_on.answered ∙ ap (λ ms. messages so_far.answered ++ ms) went_on.ends.0) in
      let progress : Progress does ways mid b went_on.answered [] went_on.written server' c =
      subst (λ s. Progress does ways mid b went_on.answered [] went_on.written s c) (sym went_on.left) went_on.progress in
      record {
        answered = answered;
        written = so_far.written ++ went_on.written;
        progress = progress-then does ways server mid server' a b c so_far.answered went_on.answered [] [] so_far.written went_on.written so_far.progress progress;
        wrote = wrote-then so_far.answered went_on.answered so_far.written went_on.written went_on.unsent so_far.wrote went_on.wrote
            ∙ ap (λ l. (so_far.written ++ went_on.written) ++ l) went_on.ends.1 ∙ append-nil (so_far.written ++ went_on.written);
        calls = took-then ways a b c so_far.written went_on.written so_far.calls went_on.calls;
        ran = run-fed (at [] buffer) piece place took (messages so_far.answered) old new so_far.ran so_far.more fed_so
            ∙ brought-whole (messages so_far.answered) new whole
            ∙ ap (λ ms. at ms (fresh new.limit)) all
            ∙ ap (at (messages answered)) (sym begun);
        more = ap (λ (k : BufState). k.state) begun;
      } where
        went : (o : Option End) → is_some o ≡ false → AnswersWhole does ways mid b new.kept o server' c → AnswersWhole does ways mid b new.kept None server' c
        went None none one = one
        went (Some e) none one = absurd (false≢true (sym none))

  -- behind a feed that took some of it, less than the piece is left
  near-end : (place took : ℕ) → 0 < took → 0 < length piece → length (drop (place + took) piece) < length piece
  near-end place took some there = omega (arith, length-drop (place + took) piece, some, there)

  -- the stream ends at a record
  pub piece-stops : (place took : ℕ) (mid server' : S) (b c : L) (old new buffer' : BufState) (stop : Option End) → PieceSoFar place mid b old
      → 0 < took → FedFrom old piece place took new → new.state ≡ Whole → AnswersWhole does ways mid b new.kept stop server' c → is_some stop ≡ true
      → AnswersPiece does ways server a buffer piece stop server' c buffer'
  piece-stops place took mid server' b c old new buffer' stop so_far some fed_so whole one stops = record {
    answered = so_far.answered ++ one.answered;
    last = one.last;
    front = take (place + took) piece;
    behind = drop (place + took) piece;
    written = so_far.written ++ one.written;
    unsent = one.unsent;
    cut = sym (take-append-drop (place + took) piece);
    near = near-end place took some;
    progress = progress-then does ways server mid one.last a b c so_far.answered one.answered [] [] so_far.written one.written so_far.progress one.progress;
    wrote = wrote-then so_far.answered one.answered so_far.written one.written one.unsent so_far.wrote one.wrote;
    calls = took-then ways a b c so_far.written one.written so_far.calls one.calls;
    ends = ends-behind (λ junk. does one.last junk None server') (link_shown ways a) (link_shown ways b) (link_shown ways c) so_far.answered one.answered new.kept (drop (place + took) piece) one.unsent
        (run (at [] buffer) (take (place + took) piece)) new.limit buffer' stop stops
        (run-fed (at [] buffer) piece place took (messages so_far.answered) old new so_far.ran so_far.more fed_so ∙ brought-whole (messages so_far.answered) new whole)
        so_far.progress.goes.sends one.ends;
    left = one.left;
  }

  -- a header took its record above the limit
  pub piece-long : (place took : ℕ) (server' : S) (b : L) (old new : BufState) → PieceSoFar place server' b old → 0 < took → FedFrom old piece place took new
      → new.state ≡ TooLong → AnswersPiece does ways server a buffer piece (Some end.TooLong) server' b new
  piece-long place took server' b old new so_far some fed_so long =
      let ran : run (at [] buffer) (take (place + took) piece) ≡ at (messages so_far.answered) new =
      run-fed (at [] buffer) piece place took (messages so_far.answered) old new so_far.ran so_far.more fed_so ∙ brought-long (messages so_far.answered) new long in
      record {
        answered = so_far.answered;
        last = server';
        front = take (place + took) piece;
        behind = drop (place + took) piece;
        written = so_far.written;
        unsent = [];
        cut = sym (take-append-drop (place + took) piece);
        near = near-end place took some;
        progress = so_far.progress;
        wrote = so_far.wrote ∙ sym (append-nil so_far.written);
        calls = so_far.calls;
        ends = (refl, ap (λ t. t.records) ran, ap (λ t. t.buffer.state) ran ∙ long);
        left = refl;
      }

  -- the piece was looked at up to its end
  pub piece-all : (place : ℕ) (server' : S) (b : L) (buffer' : BufState) → PieceSoFar place server' b buffer' → length piece ≤ place
      → AnswersPiece does ways server a buffer piece None server' b buffer'
  piece-all place server' b buffer' so_far all = record {
    answered = so_far.answered;
    last = server';
    front = take place piece;
    behind = drop place piece;
    written = so_far.written;
    unsent = [];
    cut = sym (take-append-drop place piece);
    near = λ some. omega (arith, ap length (drop_all place piece all), some);
    progress = so_far.progress;
    wrote = so_far.wrote ∙ sym (append-nil so_far.written);
    calls = so_far.calls;
    ends = (drop_all place piece all, refl, so_far.ran, so_far.more);
    left = refl;
  }
