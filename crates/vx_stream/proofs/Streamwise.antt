-- How the records of a stream are answered, piece by piece, to its end or to where it is no longer read.
use Rattle.std.proofs.Common.{◌≡◌, ◌≤◌, ◌<◌, ◌+◌, ◌^◌, ℕ, zero, suc, min, false, List, [], ◌∷◌, ◌++◌, length, Option, Some, None, IfSome, ◌⊎◌, inl, inr, refl, sym, ap, subst, ◌∙◌, arith, append_assoc, append-nil, length-append}
use Rattle.std.proofs.lemmas.List.{nil_from_length}
use Rattle.std.specs.Io.KnownBytes.{IsAtEnd}
use Rattle.vx_io_traits.specs.Faults.{Rose}
use Rattle.vx_io_traits.proofs.Laws.Goings.{Goes-gives, Goes-stays}
use Rattle.vx_io_traits.proofs.Laws.{rose_earlier}
use Rattle.vx_record.specs.Buffer.{BufState, fresh}
use Rattle.vx_record.specs.Records.{Split, records}
use Rattle.vx_record.specs.Runs.{Stream, beginning, run, behind, is_too_long, PiecesLaw}
use Rattle.vx_record.specs.declared.Feed.TheVariants as feed
use Rattle.vx_record.proofs.Laws.{came-on, shown}
use Rattle.vx_io_traits.specs.declared.links.Link.{Ghosts}
use Rattle.vx_stream.specs.Shown.{LinkShown, Gave, Ended, link_shown}
use Rattle.vx_stream.proofs.Laws.{link-goes, goes-ended, at-end, took-none}
use Rattle.vx_stream.specs.Answered.{Answered, Progress, messages, replies}
use Rattle.vx_stream.specs.Calling.{OwesNone, InTurn, OnlyTook}
use Rattle.vx_stream.specs.Stopping.{EndsSo, IsLeft, IsWithin, StreamAnswered, input_end}
use Rattle.vx_stream.specs.Pieces.{PieceEnds, AnswersPiece, Received, PieceAnswered, NoPiece, AnswersNext}
use Rattle.vx_stream.specs.declared.ends.End.{End}
use Rattle.vx_stream.specs.declared.ends.End.TheVariants as end
use Rattle.vx_stream.specs.declared.streams.Next.{Next}
use Rattle.vx_stream.specs.declared.streams.Next.TheVariants as next
use Rattle.vx_stream.proofs.Progressing.{progress-none, progress-then, messages-append, wrote-then, stops-behind}
use Rattle.vx_stream.proofs.Called.{turn-none, turn-then}
use Rattle.vx_stream.proofs.Runs.{at}

-- ---- how a stream ends

-- so many bytes more may be received, where there is a limit
abbrev pub IsRest : Option ℕ → List ℕ → ℕ → Type 0
IsRest None received left = Unit {0}
IsRest (Some most) received left = length received + left ≡ most

-- the input ended so many bytes behind the last whole record
input-ends : (IsJunk : List ℕ → Type 0) (seen : LinkShown) (answered : List Answered) (looked : Split) (seen' : LinkShown) (rest : ℕ) → looked.records ≡ messages answered
    → looked.too_long ≡ false → rest ≡ min (length looked.rest) (2 ^ 62) → IfSome seen.left (λ all. IsAtEnd seen'.left)
    → EndsSo IsJunk seen answered looked [] [] seen' (Some (input_end rest))
input-ends IsJunk seen answered looked seen' zero recs long is last = (recs, nil_from_length looked.rest (omega arith), long, refl, refl, last)
input-ends IsJunk seen answered looked seen' (suc n) recs long is last = (recs, omega arith, is, long, refl, refl, last)

-- and what answers stays as it is
input-left : {S : Type 0} (server : S) (rest : ℕ) → IsLeft (Some (input_end rest)) server server
input-left server zero = refl
input-left server (suc n) = refl

-- where it ended, fewer bytes came than may be received
input-within : (most : Option ℕ) (received : List ℕ) (left rest : ℕ) → 0 < left → IsRest most received left → IsWithin most (Some (input_end rest)) received
input-within None received left zero some is = tt
input-within None received left (suc n) some is = tt
input-within (Some most) received left zero some is = omega arith
input-within (Some most) received left (suc n) some is = omega arith

-- the same where a receive failed
fault-within : (most : Option ℕ) (received : List ℕ) (left : ℕ) → 0 < left → IsRest most received left → IsWithin most (Some end.ReadFault) received
fault-within None received left some is = tt
fault-within (Some most) received left some is = omega arith

-- where a stream ends in a piece that fits, no more bytes came than may be received
piece-within : (IsJunk : List ℕ → Type 0) (most : Option ℕ) (received piece : List ℕ) (left : ℕ) (seen seen' : LinkShown) (answered : List Answered) (after unsent : List ℕ) (t : Stream)
    (buffer : BufState) (stop : End) → IsRest most received left → length piece ≤ left → PieceEnds IsJunk seen answered after unsent t buffer seen' (Some stop)
    → IsWithin most (Some stop) (received ++ piece)
piece-within IsJunk most received piece left seen seen' answered after unsent t buffer end.Closed is fits h = absurd h
piece-within IsJunk most received piece left seen seen' answered after unsent t buffer (end.CutShort n) is fits h = absurd h
piece-within IsJunk most received piece left seen seen' answered after unsent t buffer end.ReadFault is fits h = absurd h
piece-within IsJunk None received piece left seen seen' answered after unsent t buffer _ is fits h = tt
piece-within IsJunk (Some most) received piece left seen seen' answered after unsent t buffer _ is fits h = omega (arith, length-append received piece)

-- a stream that ends in a piece ends so as a whole
piece-ends : (IsJunk : List ℕ → Type 0) (sa sb sc : LinkShown) (xs ys : List Answered) (looked : Split) (after unsent : List ℕ) (t : Stream) (buffer : BufState) (stop : End)
    → sa.send_faults ≤ sb.send_faults → looked.records ≡ messages xs ++ t.records → looked.too_long ≡ is_too_long t.buffer.state
    → PieceEnds IsJunk sb ys after unsent t buffer sc (Some stop) → EndsSo IsJunk sa (xs ++ ys) looked after unsent sc (Some stop)
piece-ends IsJunk sa sb sc xs ys looked after unsent t buffer (end.Junk n) later recs long h =
    let tail : List (List ℕ) = h.1 ∷ [] in
    (h.0, h.1, recs ∙ ap (λ all. messages xs ++ all) h.2 ∙ sym (append_assoc (messages xs) (messages ys) tail) ∙ ap (λ all. all ++ tail) (sym (messages-append xs ys)), h.3, h.4)
piece-ends IsJunk sa sb sc xs ys looked after unsent t buffer end.TooLong later recs long h =
    (recs ∙ ap (λ all. messages xs ++ all) h.1 ∙ sym (messages-append xs ys), long ∙ ap is_too_long h.2, h.0)
piece-ends IsJunk sa sb sc xs ys looked after unsent t buffer end.WriteFault later recs long h =
    (recs ∙ ap (λ all. messages xs ++ all) h.0 ∙ sym (messages-append xs ys), stops-behind sa sb sc xs ys unsent later h.2)
piece-ends IsJunk sa sb sc xs ys looked after unsent t buffer _ later recs long h = absurd h

-- ---- a stream so far

module _ {S L : Type 0} (does : S → List ℕ → Option (List ℕ) → S → Type 0) (ways : Ghosts L) (limit at_once : ℕ) (most : Option ℕ) (server : S) (a : L) where
  -- The records of the stream so far were answered, the buffer has what came behind the last of them, and so many bytes more may
  -- be received, where there is a limit.
  pub record Streamed (left : ℕ) (server' : S) (b : L) (buffer : BufState) : Type 0 where
    pub answered : List Answered
    pub received : List ℕ
    pub written : List ℕ
    pub progress : Progress does ways server a answered received written server' b
    pub wrote : replies answered ≡ written
    pub calls : InTurn ways limit answered a received written b
    pub came : run (beginning limit) received ≡ at (messages answered) buffer
    pub more : buffer.state ≡ feed.More
    pub rest : IsRest most received left

  -- nothing came yet
  pub streamed-none : (left : ℕ) (buffer : BufState) → buffer ≡ fresh limit → IsRest most [] left → Streamed left server a buffer
  streamed-none left buffer new rest = record {
    answered = [];
    received = [];
    written = [];
    progress = progress-none does ways server a;
    wrote = refl;
    calls = turn-none ways limit a;
    came = ap (at []) (sym new);
    more = ap (λ (k : BufState). k.state) new;
    rest = rest;
  }

  -- some messages were answered, the link gave a piece, and the messages of that piece were answered
  piece-goes : (mid server' : S) (b c d : L) (xs ys : List Answered) (received piece written written' : List ℕ)
      → Progress does ways server a xs received written mid b → Gave ways b piece c → Progress does ways mid c ys [] written' server' d
      → Progress does ways server a (xs ++ ys) (received ++ piece) (written ++ written') server' d
  piece-goes mid server' b c d xs ys received piece written written' before gave after =
      let came : Progress does ways server a xs (received ++ piece) written mid c = record {
        answers = before.answers;
        bytes = Goes-gives ways.stands a b c written received piece before.bytes gave.gives;
        goes = link-goes (link_shown ways a) (link_shown ways b) (link_shown ways c) received piece before.goes gave.goes;
      } in
      subst (λ all. Progress does ways server a (xs ++ ys) all (written ++ written') server' d) (append-nil (received ++ piece))
      (progress-then does ways server mid server' a c d xs ys (received ++ piece) [] written written' came after)

  -- behind the stream so far nothing is owed
  owes-none : PiecesLaw → (left : ℕ) (mid : S) (b : L) (buffer : BufState) → (so_far : Streamed left mid b buffer) → OwesNone limit so_far.answered so_far.calls.calls
  owes-none pieces left mid b buffer so_far =
      let shows = shown pieces limit so_far.received in
      record {
        earlier = so_far.answered;
        later = [];
        cut = sym (append-nil so_far.answered);
        came = ap (λ l. (records limit l).records) so_far.calls.gave ∙ sym shows.records ∙ ap (λ (u : Stream). u.records) so_far.came;
        short = ap (λ l. (records limit l).too_long) so_far.calls.gave ∙ sym shows.too_long ∙ ap (λ (u : Stream). is_too_long u.buffer.state) so_far.came ∙ ap is_too_long so_far.more;
        replied = so_far.calls.took ∙ sym so_far.wrote;
      }

  -- then a receive gave a piece, and the link took the replies to more messages
  turn-on : PiecesLaw → (left : ℕ) (mid : S) (b c d : L) (buffer : BufState) (ys : List Answered) (piece written' : List ℕ) → (so_far : Streamed left mid b buffer)
      → Received ways b piece c → OnlyTook ways c written' d
      → InTurn ways limit (so_far.answered ++ ys) a (so_far.received ++ piece) (so_far.written ++ written') d
  turn-on pieces left mid b c d buffer ys piece written' so_far came took =
      subst (λ l. InTurn ways limit (so_far.answered ++ ys) a (so_far.received ++ l) (so_far.written ++ written') d) came.gave
      (turn-then ways limit a b c d so_far.answered ys so_far.received so_far.written written' came.slice came.filled came.answer so_far.calls
      (owes-none pieces left mid b buffer so_far) came.called took)

  -- or it gave none
  turn-last : PiecesLaw → (left : ℕ) (mid : S) (b c : L) (buffer : BufState) → (so_far : Streamed left mid b buffer) → Received ways b [] c
      → InTurn ways limit so_far.answered a so_far.received so_far.written c
  turn-last pieces left mid b c buffer so_far came =
      subst (λ l. InTurn ways limit l a so_far.received so_far.written c) (append-nil so_far.answered)
      (subst (λ l. InTurn ways limit (so_far.answered ++ []) a l so_far.written c) (append-nil so_far.received)
      (subst (λ l. InTurn ways limit (so_far.answered ++ []) a (so_far.received ++ []) l c) (append-nil so_far.written)
      (turn-on pieces left mid b c c buffer [] [] [] so_far came (took-none ways c))))

  -- a piece whose messages were all answered
  pub streamed-on : PiecesLaw → (left left' room : ℕ) (mid server' : S) (b d : L) (buffer buffer' : BufState) (said : Next) (count : ℕ) → Streamed left mid b buffer
      → AnswersNext does ways room mid b buffer said server' d buffer' → said ≡ next.Came count
      → ((received piece : List ℕ) → length piece ≡ count → length piece ≤ room → IsRest most received left → IsRest most (received ++ piece) left')
      → Streamed left' server' d buffer'
  streamed-on pieces left left' room mid server' b d buffer buffer' said count so_far goes is rest =
      let came = subst (λ o. AnswersNext does ways room mid b buffer o server' d buffer') is goes in
      let piece : List ℕ = came.0.piece in
      let one : AnswersPiece does ways mid came.0.mid buffer piece None server' d buffer' = came.0.answers in
      let xs = so_far.answered in
      let ys = one.answered in
      let front : piece ≡ one.front = one.cut ∙ ap (λ l. one.front ++ l) one.ends.0 ∙ append-nil one.front in
      let progress : Progress does ways mid came.0.mid ys [] one.written server' d =
      subst (λ s. Progress does ways mid came.0.mid ys [] one.written s d) (sym one.left) one.progress in
      record {
        answered = xs ++ ys;
        received = so_far.received ++ piece;
        written = so_far.written ++ one.written;
        progress = piece-goes mid server' b came.0.mid d xs ys so_far.received piece so_far.written one.written so_far.progress came.0.gave progress;
        wrote = wrote-then xs ys so_far.written one.written one.unsent so_far.wrote one.wrote
            ∙ ap (λ l. (so_far.written ++ one.written) ++ l) one.ends.1 ∙ append-nil (so_far.written ++ one.written);
        calls = turn-on pieces left mid b came.0.mid d buffer ys piece one.written so_far came.0.received one.calls;
        came = ap (λ l. run (beginning limit) (so_far.received ++ l)) front
            ∙ came-on (beginning limit) (messages xs) buffer so_far.received one.front so_far.came
            ∙ ap (behind (messages xs)) one.ends.2
            ∙ ap (λ ms. at ms buffer') (sym (messages-append xs ys));
        more = one.ends.3;
        rest = rest so_far.received piece came.1 came.0.fits so_far.rest;
      }

  -- a piece in which the stream ends
  in-piece : PiecesLaw → (left room : ℕ) (mid server' : S) (b d : L) (buffer buffer' : BufState) (how : End) → room ≤ left → room ≤ at_once → Streamed left mid b buffer
      → PieceAnswered does ways room mid b buffer (Some how) server' d buffer' → StreamAnswered does ways limit at_once most (record { server = server; link = a }) (Some how) (record { server = server'; link = d })
  in-piece pieces left room mid server' b d buffer buffer' how fits within so_far came =
      let piece : List ℕ = came.piece in
      let one : AnswersPiece does ways mid came.mid buffer piece (Some how) server' d buffer' = came.answers in
      let IsJunk : List ℕ → Type 0 = λ junk. does one.last junk None server' in
      let xs = so_far.answered in
      let ys = one.answered in
      let t : Stream = run (at [] buffer) one.front in
      let front : List ℕ = so_far.received ++ one.front in
      let all : front ++ one.behind ≡ so_far.received ++ piece = append_assoc so_far.received one.front one.behind ∙ ap (λ l. so_far.received ++ l) (sym one.cut) in
      let ran : run (beginning limit) front ≡ behind (messages xs) t = came-on (beginning limit) (messages xs) buffer so_far.received one.front so_far.came in
      let shows = shown pieces limit front in
      let later : ways.send_faults a ≤ ways.send_faults came.mid = (let x = so_far.progress.goes.sends in let y = came.gave.goes.sends in omega arith) in
      let len : length piece ≤ left = (let x = came.fits in omega arith) in
      let near : length one.behind < length piece = one.near came.some in
      record {
        answered = xs ++ ys;
        last = one.last;
        front = front;
        behind = one.behind;
        written = so_far.written ++ one.written;
        unsent = one.unsent;
        progress = subst (λ bytes. Progress does ways server a (xs ++ ys) bytes (so_far.written ++ one.written) one.last d) (sym all)
            (piece-goes mid one.last b came.mid d xs ys so_far.received piece so_far.written one.written so_far.progress came.gave one.progress);
        wrote = wrote-then xs ys so_far.written one.written one.unsent so_far.wrote one.wrote;
        near = (let x = came.fits in omega arith);
        in_turn = subst (λ bytes. InTurn ways limit (xs ++ ys) a bytes (so_far.written ++ one.written) d) (sym all)
            (turn-on pieces left mid b came.mid d buffer ys piece one.written so_far came.received one.calls);
        within = subst (IsWithin most (Some how)) (sym all)
            (piece-within IsJunk most so_far.received piece left (link_shown ways came.mid) (link_shown ways d) ys one.behind one.unsent t buffer' how so_far.rest len one.ends);
        ended = piece-ends IsJunk (link_shown ways a) (link_shown ways came.mid) (link_shown ways d) xs ys (records limit front) one.behind one.unsent t buffer' how later
            (sym shows.records ∙ ap (λ (u : Stream). u.records) ran) (sym shows.too_long ∙ ap (λ (u : Stream). is_too_long u.buffer.state) ran) one.ends;
        left = one.left;
      }

  -- the stream so far, as far as its last byte, and how it ends there
  so-far-done : PiecesLaw → (left : ℕ) (mid : S) (b c : L) (buffer : BufState) (how : Option End) → (so_far : Streamed left mid b buffer)
      → Progress does ways server a so_far.answered so_far.received so_far.written mid c
      → InTurn ways limit so_far.answered a so_far.received so_far.written c → 0 < at_once → IsWithin most how so_far.received → IsLeft how mid mid
      → ((looked : Split) → looked.records ≡ messages so_far.answered → looked.too_long ≡ false → buffer.rest ≡ min (length looked.rest) (2 ^ 62)
      → EndsSo (λ junk. does mid junk None mid) (link_shown ways a) so_far.answered looked [] [] (link_shown ways c) how)
      → StreamAnswered does ways limit at_once most (record { server = server; link = a }) how (record { server = mid; link = c })
  so-far-done pieces left mid b c buffer how so_far progress turn room within stays ends =
      let shows = shown pieces limit so_far.received in
      let came = so_far.came in
      let long : (records limit so_far.received).too_long ≡ false =
      sym shows.too_long ∙ ap (λ (u : Stream). is_too_long u.buffer.state) came ∙ ap is_too_long so_far.more in
      record {
        answered = so_far.answered;
        last = mid;
        front = so_far.received;
        behind = [];
        written = so_far.written;
        unsent = [];
        progress = subst (λ bytes. Progress does ways server a so_far.answered bytes so_far.written mid c) (sym (append-nil so_far.received)) progress;
        wrote = so_far.wrote ∙ sym (append-nil so_far.written);
        near = room;
        in_turn = subst (λ bytes. InTurn ways limit so_far.answered a bytes so_far.written c) (sym (append-nil so_far.received)) turn;
        within = subst (IsWithin most how) (sym (append-nil so_far.received)) within;
        ended = ends (records limit so_far.received) (sym shows.records ∙ ap (λ (u : Stream). u.records) came) long
            (ap (λ (u : Stream). u.buffer.rest) (sym came) ∙ shows.rest long);
        left = stays;
      }

  -- a link that gave nothing more
  then-ended : (mid : S) (b c : L) (xs : List Answered) (received written : List ℕ) → Progress does ways server a xs received written mid b
      → Ended ways b c → Progress does ways server a xs received written mid c
  then-ended mid b c xs received written before ended = record {
    answers = before.answers;
    bytes = Goes-stays ways.stands a b c written received before.bytes ended.stays;
    goes = goes-ended ways b c (link_shown ways a) received before.goes ended;
  }

  -- no piece came behind the stream so far
  no-piece : PiecesLaw → (left : ℕ) (mid : S) (b c : L) (buffer : BufState) (how : End) → 0 < left → 0 < at_once → Streamed left mid b buffer
      → Ended ways b c → Received ways b [] c → ((how ≡ end.ReadFault) × Rose (ways.receive_faults b) (ways.receive_faults c)) ⊎ ((how ≡ input_end buffer.rest) × IsAtEnd (ways.left b))
      → StreamAnswered does ways limit at_once most (record { server = server; link = a }) (Some how) (record { server = mid; link = c })
  no-piece pieces left mid b c buffer how some room so_far ended came (inl failed) =
      subst (λ e. StreamAnswered does ways limit at_once most (record { server = server; link = a }) (Some e) (record { server = mid; link = c })) (sym failed.0)
      (so-far-done pieces left mid b c buffer (Some end.ReadFault) so_far
      (then-ended mid b c so_far.answered so_far.received so_far.written so_far.progress ended)
      (turn-last pieces left mid b c buffer so_far came) room
      (fault-within most so_far.received left some so_far.rest) refl
      (λ looked recs long n. (recs, long, refl, refl, rose_earlier (ways.receive_faults a) (ways.receive_faults b) (ways.receive_faults c) so_far.progress.goes.receives failed.1)))
  no-piece pieces left mid b c buffer how some room so_far ended came (inr over) =
      let last : IfSome (ways.left a) (λ all. IsAtEnd (ways.left c)) = at-end (ways.left a) (ways.left b) (ways.left c) so_far.received so_far.progress.goes.left over.1 ended.left in
      subst (λ e. StreamAnswered does ways limit at_once most (record { server = server; link = a }) (Some e) (record { server = mid; link = c })) (sym over.0)
      (so-far-done pieces left mid b c buffer (Some (input_end buffer.rest)) so_far
      (then-ended mid b c so_far.answered so_far.received so_far.written so_far.progress ended)
      (turn-last pieces left mid b c buffer so_far came) room
      (input-within most so_far.received left buffer.rest some so_far.rest) (input-left mid buffer.rest)
      (λ looked recs long n. input-ends (λ junk. does mid junk None mid) (link_shown ways a) so_far.answered looked (link_shown ways c) buffer.rest recs long n last))

  -- the stream ends in the next piece, or there is none
  pub streamed-stops : PiecesLaw → (left room : ℕ) (mid server' : S) (b d : L) (buffer buffer' : BufState) (said : Next) (how : End) → 0 < left
      → room ≤ left → room ≤ at_once → 0 < at_once → Streamed left mid b buffer → AnswersNext does ways room mid b buffer said server' d buffer' → said ≡ next.Ends how
      → StreamAnswered does ways limit at_once most (record { server = server; link = a }) (Some how) (record { server = server'; link = d })
  streamed-stops pieces left room mid server' b d buffer buffer' said how some fits within there so_far goes is =
      by (subst (λ o. AnswersNext does ways room mid b buffer o server' d buffer') is goes) where
        by : PieceAnswered does ways room mid b buffer (Some how) server' d buffer' ⊎ NoPiece ways mid b buffer how server' d
            → StreamAnswered does ways limit at_once most (record { server = server; link = a }) (Some how) (record { server = server'; link = d })
        by (inl came) = in-piece pieces left room mid server' b d buffer buffer' how fits within so_far came
        by (inr last) = subst (λ s. StreamAnswered does ways limit at_once most (record { server = server; link = a }) (Some how) (record { server = s; link = d })) (sym last.same)
            (no-piece pieces left mid b d buffer how some there so_far last.ended last.received last.why)

  -- as many bytes came as may be received
  pub streamed-spent : PiecesLaw → (left : ℕ) (mid : S) (b : L) (buffer : BufState) → (so_far : Streamed left mid b buffer)
      → 0 < at_once → IsWithin most None so_far.received → StreamAnswered does ways limit at_once most (record { server = server; link = a }) None (record { server = mid; link = b })
  streamed-spent pieces left mid b buffer so_far room within =
      so-far-done pieces left mid b b buffer None so_far so_far.progress so_far.calls room within refl (λ looked recs long n. (recs, long, refl, refl))
