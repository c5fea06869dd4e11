-- How a reply comes out of a stream, piece by piece.
use Rattle.std.proofs.Common.{◌≡◌, ℕ, zero, suc, ◌+◌, ◌-◌, ◌≤◌, ◌<◌, min, false, List, [], ◌∷◌, ◌++◌, Option, length, take, drop, refl, subst, sym, ap, ◌∙◌, arith, append_assoc, append-nil, length-append, length-drop, take-append-drop}
use Rattle.std.proofs.lemmas.List.{take_at, take-take, length-take-le, drop_all, drop-take, length-take}
use Rattle.std.proofs.lemmas.Grind.{common_steps}
use Rattle.std.proofs.KnownBytes.{Consumes-nil, Consumes-trans, Consumes-kept, Consumes-whole}
use Rattle.vx_calls.specs.declared.limits.TheConstants.{REPLY_MAX}
use Rattle.vx_io_traits.specs.Faults.{Rose}
use Rattle.vx_io_traits.proofs.Laws.Goings.{Goes-none, Goes-goes, Goes-stays}
use Rattle.vx_record.specs.Buffer.{BufState, fresh, step, fed, taken}
use Rattle.vx_record.specs.Records.{records}
use Rattle.vx_record.specs.Ends.{is_settled, IsEnd, FeedEnds, EndLaw}
use Rattle.vx_record.specs.declared.Feed.{Feed}
use Rattle.vx_record.specs.declared.Feed.TheVariants.{More, Whole, TooLong}
use Rattle.vx_record.proofs.Laws.{settled-none, fed-append, fed-stopped, taken-stopped, taken-more}
use Rattle.vx_client.specs.Stream.{by_header, by_length, IsClientOpen}
use Rattle.vx_client.specs.Inbox.{InboxState, Gave, last_at, last_of, Refills, IsBrought}
use Rattle.vx_client.specs.declared.inbox.TheConstants.{REPLY_STREAM_MAX, PIECE}
use Rattle.vx_client.specs.declared.inbox.Refill.TheVariants as refill
use Rattle.vx_client.specs.declared.inbox.Brought.TheVariants as brought

-- ---- the part of a piece that a buffer takes makes of it what the piece makes of it

fed-front_at : (f : Feed) (s : BufState) (b : ℕ) (bs : List ℕ) → s.state ≡ f
    → fed (step s b) (take (taken (step s b) bs) bs) ≡ fed (step s b) bs
    → fed s (take (taken s (b ∷ bs)) (b ∷ bs)) ≡ fed s (b ∷ bs)
fed-front_at More s b bs e rest = ap (λ n. fed s (take n (b ∷ bs))) (taken-more s b bs e) ∙ rest
fed-front_at Whole s b bs e rest =
    let stopped : s.state ≡ More → ⊥ = λ m. absurd cc in
    ap (λ n. fed s (take n (b ∷ bs))) (taken-stopped s (b ∷ bs) stopped) ∙ sym (fed-stopped s (b ∷ bs) stopped)
fed-front_at TooLong s b bs e rest =
    let stopped : s.state ≡ More → ⊥ = λ m. absurd cc in
    ap (λ n. fed s (take n (b ∷ bs))) (taken-stopped s (b ∷ bs) stopped) ∙ sym (fed-stopped s (b ∷ bs) stopped)

pub fed-front : (s : BufState) (piece : List ℕ) → fed s (take (taken s piece) piece) ≡ fed s piece
fed-front s [] = refl
fed-front s (b ∷ bs) = fed-front_at s.state s b bs refl (fed-front (step s b) bs)

taken-front_at : (f : Feed) (s : BufState) (b : ℕ) (bs : List ℕ) → s.state ≡ f
    → taken (step s b) (take (taken (step s b) bs) bs) ≡ taken (step s b) bs
    → taken s (take (taken s (b ∷ bs)) (b ∷ bs)) ≡ taken s (b ∷ bs)
taken-front_at More s b bs e rest =
    ap (λ n. taken s (take n (b ∷ bs))) (taken-more s b bs e) ∙ taken-more s b (take (taken (step s b) bs) bs) e ∙ ap suc rest ∙ sym (taken-more s b bs e)
taken-front_at Whole s b bs e rest =
    let stopped : s.state ≡ More → ⊥ = λ m. absurd cc in
    taken-stopped s (take (taken s (b ∷ bs)) (b ∷ bs)) stopped ∙ sym (taken-stopped s (b ∷ bs) stopped)
taken-front_at TooLong s b bs e rest =
    let stopped : s.state ≡ More → ⊥ = λ m. absurd cc in
    taken-stopped s (take (taken s (b ∷ bs)) (b ∷ bs)) stopped ∙ sym (taken-stopped s (b ∷ bs) stopped)

pub taken-front : (s : BufState) (piece : List ℕ) → taken s (take (taken s piece) piece) ≡ taken s piece
taken-front s [] = refl
taken-front s (b ∷ bs) = taken-front_at s.state s b bs refl (taken-front (step s b) bs)

-- where a stream stands behind the bytes that a buffer took of a piece
pub record TakenEnds (used part : List ℕ) (new : BufState) : Type 0 where
  pub shortest : is_settled (records REPLY_MAX (take (length (used ++ part) - 1) (used ++ part))) ≡ false
  pub ends : IsEnd new.state new.kept (records REPLY_MAX (used ++ part))
  pub held : new ≡ fed (fresh REPLY_MAX) (used ++ part)

pub taken_ends : EndLaw → (used piece : List ℕ) (old new : BufState) (n : ℕ) → old ≡ fed (fresh REPLY_MAX) used → old.state ≡ More → new ≡ fed old piece
    → n ≡ taken old piece → 0 < n → n ≤ length piece → TakenEnds used (take n piece) new
taken_ends ends used piece old new n held more new_is n_is some within =
    let part : List ℕ = take n piece in
    let s : BufState = fed (fresh REPLY_MAX) used in
    let len : length part ≡ n = length-take-le n piece within in
    let more' : s.state ≡ More = subst (λ b. b.state ≡ More) held more in
    let n_at : n ≡ taken s piece = n_is ∙ ap (λ b. taken b piece) held in
    let took : taken s part ≡ length part =
    subst (λ k. taken s (take k piece) ≡ k) (sym n_at) (taken-front s piece) ∙ sym len in
    let same : fed s part ≡ new =
    ap (λ k. fed s (take k piece)) n_at ∙ fed-front s piece ∙ ap (λ b. fed b piece) (sym held) ∙ sym new_is in
    let law : FeedEnds REPLY_MAX (used ++ part) (fed s part) (taken s part) (length part) = ends REPLY_MAX used part more' (omega arith) in
    record {
      shortest = law.open_before took;
      ends = subst (λ b. IsEnd b.state b.kept (records REPLY_MAX (used ++ part))) same (law.ends took);
      held = sym same ∙ sym (fed-append (fresh REPLY_MAX) used part);
    }

-- ---- a reply that is read

-- so far a link gave bytes, of which the buffer took these and no reply came
pub record ReadSoFar {L : Type 0} (stands : L → List ℕ → List ℕ → Type 0) (left : L → Option (List ℕ)) (receives sends : L → ℕ)
    (first now : L) (before : List ℕ) (s : InboxState) (room : ℕ) : Type 0 where
  pub used : List ℕ
  pub got : List ℕ
  pub gave : Gave stands left first now got
  pub stream : before ++ got ≡ used ++ s.kept
  pub held : s.reply ≡ fed (fresh REPLY_MAX) used
  pub more : s.reply.state ≡ More
  pub unsettled : is_settled (records REPLY_MAX used) ≡ false
  pub count : room + length used ≡ REPLY_STREAM_MAX
  pub counted : receives first ≤ receives now
  pub apart : sends now ≡ sends first

-- a stream of no bytes has no record
none-settled : is_settled (records REPLY_MAX []) ≡ false
unfolding records
none-settled = refl

-- between two places of which the second isn't behind the first, nothing is kept
pub none-kept : (from to : ℕ) (items : List ℕ) → to ≤ from → drop from (take to items) ≡ []
none-kept from to items none = drop_all from (take to items) (omega (arith, none, length-take to items))

-- at first it gave nothing
pub read-none : {L : Type 0} (stands : L → List ℕ → List ℕ → Type 0) (left : L → Option (List ℕ)) (receives sends : L → ℕ) (l : L) (s : InboxState)
    → s.reply ≡ fresh REPLY_MAX → ReadSoFar stands left receives sends l l s.kept s REPLY_STREAM_MAX
read-none stands left receives sends l s none = record {
  used = [];
  got = [];
  gave = record { goes = Goes-none stands l; given = Consumes-nil (left l) };
  stream = append-nil s.kept;
  held = none;
  more = ap (λ (b : BufState). b.state) none;
  unsettled = none-settled;
  count = refl;
  counted = omega arith;
  apart = refl;
}

-- it gave more
pub read-refilled : {L : Type 0} (stands : L → List ℕ → List ℕ → Type 0) (left : L → Option (List ℕ)) (receives sends : L → ℕ) (first mid now : L)
    (before : List ℕ) (s t : InboxState) (room : ℕ) → ReadSoFar stands left receives sends first mid before s room
    → Refills stands left receives mid now s.kept t.kept refill.Some → t.reply ≡ s.reply → receives mid ≤ receives now → sends now ≡ sends mid
    → ReadSoFar stands left receives sends first now before t room
read-refilled stands left receives sends first mid now before s t room so_far (got, gave, behind, some) same counted apart =
    let earlier : receives first ≤ receives mid = so_far.counted in
    record {
      used = so_far.used;
      got = so_far.got ++ got;
      gave = record {
        goes = Goes-goes stands first mid now [] so_far.got [] got so_far.gave.goes gave.goes;
        given = Consumes-trans (left first) (left mid) (left now) so_far.got got so_far.gave.given gave.given;
      };
      stream = sym (append_assoc before so_far.got got) ∙ ap (λ xs. xs ++ got) so_far.stream ∙ append_assoc so_far.used s.kept got ∙ ap (λ xs. so_far.used ++ xs) (sym behind);
      held = same ∙ so_far.held;
      more = ap (λ (b : BufState). b.state) same ∙ so_far.more;
      unsettled = so_far.unsettled;
      count = so_far.count;
      counted = omega arith;
      apart = apart ∙ so_far.apart;
    }

-- a buffer whose record isn't whole shows none
abbrev pub IsUnfinished : Feed → Type 0
IsUnfinished More = Unit {0}
IsUnfinished Whole = ⊥
IsUnfinished TooLong = Unit {0}

last_none-at : (f : Feed) (kept : List ℕ) → IsUnfinished f → last_at f kept ≡ []
last_none-at More kept h = refl
last_none-at Whole kept h = absurd h
last_none-at TooLong kept h = refl

pub last-none : (b : BufState) (f : Feed) → b.state ≡ f → IsUnfinished f → last_of b ≡ []
last-none b f e h = ap (λ k. last_at k b.kept) e ∙ last_none-at f b.kept h

-- a front of a front
take-min : (m n : ℕ) (xs : List ℕ) → take m (take n xs) ≡ take (min m n) xs
take-min m n [] = grind (arith, common_steps)
take-min zero n (x ∷ xs) = grind (arith, common_steps)
take-min (suc m) zero (x ∷ xs) = grind (arith, common_steps)
take-min (suc m) (suc n) (x ∷ xs) =
    let e : min (suc m) (suc n) ≡ suc (min m n) = omega arith in
    rw e (ap (λ ys. x ∷ ys) (take-min m n xs))

-- what a feed takes of the bytes that came
pub record Fed_on (s t : InboxState) (most n : ℕ) : Type 0 where
  pub reply : t.reply ≡ fed s.reply (take most s.kept)
  pub took : n ≡ taken s.reply (take most s.kept)
  pub kept : t.kept ≡ drop n s.kept
  pub some : 0 < n
  pub within : n ≤ min most (length s.kept)

-- the bytes that it takes stand between those that were used and those that are kept
pub fed_cut : (used : List ℕ) (s t : InboxState) (most n : ℕ) → Fed_on s t most n → used ++ s.kept ≡ (used ++ take n (take most s.kept)) ++ t.kept
fed_cut used s t most n on =
    let within : n ≤ min most (length s.kept) = on.within in
    let part : take n (take most s.kept) ≡ take n s.kept = take-take n most s.kept (omega arith) in
    ap (λ xs. used ++ xs) (sym (take-append-drop n s.kept)) ∙ ap (λ xs. used ++ (xs ++ drop n s.kept)) (sym part)
    ∙ ap (λ xs. used ++ (take n (take most s.kept) ++ xs)) (sym on.kept) ∙ sym (append_assoc used (take n (take most s.kept)) t.kept)

-- it leaves fewer bytes than came at once
fed_few : (s t : InboxState) (most n : ℕ) → Fed_on s t most n → length s.kept ≤ PIECE → length t.kept < PIECE
fed_few s t most n on few =
    let len : length t.kept ≡ length s.kept - n = ap length on.kept ∙ length-drop n s.kept in
    let some : 0 < n = on.some in
    let within : n ≤ min most (length s.kept) = on.within in
    omega arith

-- the bytes that a feed is handed are the front of those that are kept
pub part-of : (xs ys kept : List ℕ) (from to most part : ℕ) → ys ≡ xs → kept ≡ drop from (take to xs) → part ≡ min most (to - from) → from ≤ to
    → take (from + part - from) (drop from ys) ≡ take most kept
part-of xs ys kept from to most part same kept_is part_is order =
    let len : from + part - from ≡ part = omega arith in
    let ends : from + (to - from) ≡ to = omega arith in
    let inner : drop from (take to xs) ≡ take (to - from) (drop from xs) = ap (λ n. drop from (take n xs)) (sym ends) ∙ drop-take from (to - from) xs in
    ap (λ n. take n (drop from ys)) (len ∙ part_is) ∙ ap (λ zs. take (min most (to - from)) (drop from zs)) same
    ∙ sym (take-min most (to - from) (drop from xs)) ∙ ap (take most) (sym (kept_is ∙ inner))

-- ---- how a read goes on and how it ends

-- a feed after which the record isn't whole
pub read-fed : {L : Type 0} → EndLaw → (stands : L → List ℕ → List ℕ → Type 0) (left : L → Option (List ℕ)) (receives sends : L → ℕ) (first now : L)
    (before : List ℕ) (s t : InboxState) (room n : ℕ) → ReadSoFar stands left receives sends first now before s room → Fed_on s t room n
    → t.reply.state ≡ More → ReadSoFar stands left receives sends first now before t (room - n)
read-fed ends stands left receives sends first now before s t room n so_far on more =
    let piece : List ℕ = take room s.kept in
    let part : List ℕ = take n piece in
    let within : n ≤ min room (length s.kept) = on.within in
    let piece_len = length-take room s.kept in
    let behind : TakenEnds so_far.used part t.reply =
    taken_ends ends so_far.used piece s.reply t.reply n so_far.held so_far.more on.reply on.took on.some (omega arith) in
    let ended : IsEnd More t.reply.kept (records REPLY_MAX (so_far.used ++ part)) =
    subst (λ f. IsEnd f t.reply.kept (records REPLY_MAX (so_far.used ++ part))) more behind.ends in
    let len : length part ≡ n = length-take-le n piece (omega arith) in
    let both = length-append so_far.used part in
    let count : room + length so_far.used ≡ REPLY_STREAM_MAX = so_far.count in
    record {
      used = so_far.used ++ part;
      got = so_far.got;
      gave = so_far.gave;
      stream = so_far.stream ∙ fed_cut so_far.used s t room n on;
      held = behind.held;
      more = more;
      unsettled = settled-none (records REPLY_MAX (so_far.used ++ part)) ended.0 ended.1;
      count = omega arith;
      counted = so_far.counted;
      apart = so_far.apart;
    }

-- a feed that made the record whole
pub read-whole : {L : Type 0} → EndLaw → (stands : L → List ℕ → List ℕ → Type 0) (left : L → Option (List ℕ)) (receives sends : L → ℕ) (first now : L)
    (before : List ℕ) (s t : InboxState) (room n : ℕ) → ReadSoFar stands left receives sends first now before s room → Fed_on s t room n
    → t.reply.state ≡ Whole → length s.kept ≤ PIECE → IsBrought stands left receives first now before t brought.Record
read-whole ends stands left receives sends first now before s t room n so_far on whole few =
    let piece : List ℕ = take room s.kept in
    let part : List ℕ = take n piece in
    let within : n ≤ min room (length s.kept) = on.within in
    let piece_len = length-take room s.kept in
    let behind : TakenEnds so_far.used part t.reply =
    taken_ends ends so_far.used piece s.reply t.reply n so_far.held so_far.more on.reply on.took on.some (omega arith) in
    let ended : IsEnd Whole t.reply.kept (records REPLY_MAX (so_far.used ++ part)) =
    subst (λ f. IsEnd f t.reply.kept (records REPLY_MAX (so_far.used ++ part))) whole behind.ends in
    let len : length part ≡ n = length-take-le n piece (omega arith) in
    let both = length-append so_far.used part in
    let count : room + length so_far.used ≡ REPLY_STREAM_MAX = so_far.count in (
      so_far.got,
      so_far.gave,
      (
        record {
          front = so_far.used ++ part;
          cut = so_far.stream ∙ fed_cut so_far.used s t room n on;
          whole = ended;
          shortest = behind.shortest;
          within = omega arith;
          few = fed_few s t room n on few;
        },
        whole,
      ),
    )

-- a feed that came to a header above the limit
pub read-long_header : {L : Type 0} → EndLaw → (stands : L → List ℕ → List ℕ → Type 0) (left : L → Option (List ℕ)) (receives sends : L → ℕ) (first now : L)
    (before : List ℕ) (s t : InboxState) (room n : ℕ) → ReadSoFar stands left receives sends first now before s room → Fed_on s t room n
    → t.reply.state ≡ TooLong → length s.kept ≤ PIECE → IsBrought stands left receives first now before t brought.TooLong
read-long_header ends stands left receives sends first now before s t room n so_far on long few =
    let piece : List ℕ = take room s.kept in
    let part : List ℕ = take n piece in
    let within : n ≤ min room (length s.kept) = on.within in
    let piece_len = length-take room s.kept in
    let behind : TakenEnds so_far.used part t.reply =
    taken_ends ends so_far.used piece s.reply t.reply n so_far.held so_far.more on.reply on.took on.some (omega arith) in
    let ended : IsEnd TooLong t.reply.kept (records REPLY_MAX (so_far.used ++ part)) =
    subst (λ f. IsEnd f t.reply.kept (records REPLY_MAX (so_far.used ++ part))) long behind.ends in
    let len : length part ≡ n = length-take-le n piece (omega arith) in
    let both = length-append so_far.used part in
    let count : room + length so_far.used ≡ REPLY_STREAM_MAX = so_far.count in (
      so_far.got,
      so_far.gave,
      (
        by_header (so_far.used ++ part) t.kept (so_far.stream ∙ fed_cut so_far.used s t room n on) (omega arith) ended.0 ended.1 behind.shortest
            (fed_few s t room n on few),
        last-none t.reply TooLong long tt,
      ),
    )

-- bytes that came where the reply may have no more
pub read-long_stream : {L : Type 0} (stands : L → List ℕ → List ℕ → Type 0) (left : L → Option (List ℕ)) (receives sends : L → ℕ) (first now : L)
    (before : List ℕ) (s : InboxState) (room : ℕ) → ReadSoFar stands left receives sends first now before s room → room ≡ 0 → 0 < length s.kept
    → length s.kept ≤ PIECE → IsBrought stands left receives first now before s brought.TooLong
read-long_stream stands left receives sends first now before s room so_far none some few =
    let stream = so_far.stream in
    let whole = length-append so_far.used s.kept in
    let count : room + length so_far.used ≡ REPLY_STREAM_MAX = so_far.count in
    let used_len : length so_far.used ≡ REPLY_STREAM_MAX = omega arith in
    let len : length (before ++ so_far.got) ≡ length (so_far.used ++ s.kept) = ap length stream in
    let front : take REPLY_STREAM_MAX (before ++ so_far.got) ≡ so_far.used = ap (take REPLY_STREAM_MAX) stream ∙ take_at so_far.used s.kept REPLY_STREAM_MAX used_len in
    (so_far.got, so_far.gave, (by_length (omega arith) (ap (λ xs. is_settled (records REPLY_MAX xs)) front ∙ so_far.unsettled) (omega arith), last-none s.reply More so_far.more tt))

-- the stream so far is open
pub read-open : {L : Type 0} (stands : L → List ℕ → List ℕ → Type 0) (left : L → Option (List ℕ)) (receives sends : L → ℕ) (first now : L)
    (before : List ℕ) (s : InboxState) (room : ℕ) (so_far : ReadSoFar stands left receives sends first now before s room) → s.kept ≡ [] → IsClientOpen (before ++ so_far.got)
read-open stands left receives sends first now before s room so_far none =
    let all : before ++ so_far.got ≡ so_far.used = so_far.stream ∙ ap (λ xs. so_far.used ++ xs) none ∙ append-nil so_far.used in
    let len : length (before ++ so_far.got) ≡ length so_far.used = ap length all in
    let count : room + length so_far.used ≡ REPLY_STREAM_MAX = so_far.count in
    record { unsettled = ap (λ xs. is_settled (records REPLY_MAX xs)) all ∙ so_far.unsettled; within = omega arith }

-- the input ended
pub read-ended : {L : Type 0} (stands : L → List ℕ → List ℕ → Type 0) (left : L → Option (List ℕ)) (receives sends : L → ℕ) (first mid now : L)
    (before : List ℕ) (s t : InboxState) (room : ℕ) → ReadSoFar stands left receives sends first mid before s room
    → Refills stands left receives mid now s.kept t.kept refill.End → t.reply ≡ s.reply → IsBrought stands left receives first now before t brought.End
read-ended stands left receives sends first mid now before s t room so_far (none, after, at_end, kept, stays) same = (
  so_far.got,
  record {
    goes = Goes-stays stands first mid now [] so_far.got so_far.gave.goes stays;
    given = Consumes-kept (left first) (left mid) (left now) so_far.got so_far.gave.given kept;
  },
  (
    read-open stands left receives sends first mid before s room so_far none,
    Consumes-whole (left first) (left mid) so_far.got (λ all. all ≡ so_far.got) so_far.gave.given at_end refl,
    last-none t.reply More (ap (λ (b : BufState). b.state) same ∙ so_far.more) tt,
  ),
)

-- a receive failed
pub read-failed : {L : Type 0} (stands : L → List ℕ → List ℕ → Type 0) (left : L → Option (List ℕ)) (receives sends : L → ℕ) (first mid now : L)
    (before : List ℕ) (s t : InboxState) (room : ℕ) → ReadSoFar stands left receives sends first mid before s room
    → Refills stands left receives mid now s.kept t.kept refill.Failed → t.reply ≡ s.reply → IsBrought stands left receives first now before t brought.Failed
read-failed stands left receives sends first mid now before s t room so_far (none, after, rose, kept, stays) same =
    let earlier : receives first ≤ receives mid = so_far.counted in
    let risen : Rose (receives first) (receives now) = omega arith in (
      so_far.got,
      record {
        goes = Goes-stays stands first mid now [] so_far.got so_far.gave.goes stays;
        given = Consumes-kept (left first) (left mid) (left now) so_far.got so_far.gave.given kept;
      },
      (
        read-open stands left receives sends first mid before s room so_far none,
        risen,
        last-none t.reply More (ap (λ (b : BufState). b.state) same ∙ so_far.more) tt,
      ),
    )
