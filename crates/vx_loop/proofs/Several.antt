-- What is heard of a write in several pieces.
use Rattle.std.proofs.Common.{◌≡◌, ◌-◌, ◌≤◌, ◌<◌, ◌==◌, ◌/◌, ◌%◌, ℕ, Bool, false, List, [], ◌∷◌, ◌++◌, length, take, drop, Option, Some, None, ◌⊎◌, inl, inr, refl, sym, ap, ◌∙◌, subst, arith, append_assoc, append-nil, length-drop}
use Rattle.std.specs.Prelude.{◌&&◌}
use Rattle.std.specs.List.{flat_map, find}
use Rattle.std.proofs.lemmas.Bool.{false≢true}
use Rattle.std.proofs.lemmas.Nat.Bits.{bit_at_and}
use Rattle.std.proofs.lemmas.Option.{none-some, same_Some}
use Rattle.std.proofs.lemmas.List.{take_all, take-append-drop, length-take}
use Rattle.std.proofs.lemmas.Grind.{flat_map-append}
use Rattle.vx_488.specs.declared.transfers.Addr.{Addr}
use Rattle.vx_488.specs.Wire.{wire_after}
use Rattle.vx_488.specs.Heard.{Byte, heard}
use Rattle.vx_488.proofs.Laws.{wire_after-append, heard-append}
use Rattle.vx_rules.specs.Table.{Link, Table}
use Rattle.vx_rules.specs.Lists.{along}
use Rattle.vx_rules.specs.Calls.{sets_end}
use Rattle.vx_flow.specs.Event.{Event}
use Rattle.vx_flow.specs.InterleavedState.{InterleavedState}
use Rattle.vx_flow.specs.InterleavedStep.{interleaved_step}
use Rattle.vx_flow.specs.Sound.{IsSound}
use Rattle.vx_flow.specs.Laws.{marked_bytes}
use Rattle.vx_flow.proofs.Laws.{interleaved-frame}
use Rattle.vx_rules.proofs.Laws.Lists.{along-none}
use Rattle.vx_loop.specs.Gateway.{Gateway, gateway_of}
use Rattle.vx_flow.specs.Frames.{moves_by}
use Rattle.vx_client.specs.State.{ClientState}
use Rattle.vx_client.specs.Chunks.{without_end}
use Rattle.vx_loop.specs.LoopState.{ServedState, LoopState}
use Rattle.vx_loop.specs.Telling.{FindsEnded}
use Rattle.vx_loop.specs.Heard.{Hears, IsResting, IsToDevice, IsHeard}
use Rattle.vx_loop.proofs.Happening.{adds-append}

-- ---- the bus behind events

wire-along : (es : List Event) (f g : InterleavedState) → along interleaved_step (Some f) es ≡ Some g → g.state.wire ≡ wire_after f.state.wire (flat_map moves_by es)
wire-along [] f g h = ap (λ (x : InterleavedState). x.state.wire) (sym (same_Some f g h))
wire-along (e ∷ es) f g h = by (interleaved_step f e) refl h (λ mid x. wire-along es mid g x) where
  by : (o : Option InterleavedState) → interleaved_step f e ≡ o → along interleaved_step o es ≡ Some g
      → ((mid : InterleavedState) → along interleaved_step (Some mid) es ≡ Some g → g.state.wire ≡ wire_after mid.state.wire (flat_map moves_by es))
      → g.state.wire ≡ wire_after f.state.wire (moves_by e ++ flat_map moves_by es)
  by None is x rest = absurd (none-some g (sym (along-none interleaved_step es) ∙ x))
  by (Some mid) is x rest =
      rest mid x ∙ ap (λ w. wire_after w (flat_map moves_by es)) (interleaved-frame f mid e is).wire_is ∙ sym (wire_after-append f.state.wire (moves_by e) (flat_map moves_by es))

-- ---- one part and then another

hears-append : (f g h : Gateway) (a : Addr) (xs ys : List Byte) → IsSound f.interleaved → Hears f g a xs → Hears g h a ys → Hears f h a (xs ++ ys)
hears-append f g h a xs ys sound first second =
    let wire : g.interleaved.state.wire ≡ wire_after f.interleaved.state.wire (flat_map moves_by first.group) =
    ap (λ (x : InterleavedState). x.state.wire) first.adds.at_now ∙ wire-along first.group f.interleaved first.adds.last first.adds.events in
    let both : (b : Addr) → heard b f.interleaved.state.wire (flat_map moves_by (first.group ++ second.group))
    ≡ heard b f.interleaved.state.wire (flat_map moves_by first.group) ++ heard b g.interleaved.state.wire (flat_map moves_by second.group) =
    λ b. ap (heard b f.interleaved.state.wire) (flat_map-append moves_by first.group second.group)
    ∙ heard-append b f.interleaved.state.wire (flat_map moves_by first.group) (flat_map moves_by second.group)
    ∙ ap (λ w. heard b f.interleaved.state.wire (flat_map moves_by first.group) ++ heard b w (flat_map moves_by second.group)) (sym wire) in
    record {
      group = first.group ++ second.group;
      steps = first.steps ++ second.steps;
      adds = adds-append f g h first.group second.group first.steps second.steps sound first.adds second.adds;
      here = both a ∙ ap (λ bs. bs ++ heard a g.interleaved.state.wire (flat_map moves_by second.group)) first.here ∙ ap (λ bs. xs ++ bs) second.here;
      elsewhere = λ b ne. both b ∙ ap (λ bs. bs ++ heard b g.interleaved.state.wire (flat_map moves_by second.group)) (first.elsewhere b ne) ∙ second.elsewhere b ne;
    }

-- bytes without END, and others behind them
marked-append : (end : Bool) (xs ys : List ℕ) → 0 < length ys → marked_bytes false xs ++ marked_bytes end ys ≡ marked_bytes end (xs ++ ys)
marked-append end [] ys some = refl
marked-append end (x ∷ []) [] some = absurd (omega arith)
marked-append end (x ∷ []) (y ∷ ys) some = refl
marked-append end (x ∷ z ∷ xs) ys some = ap (λ bs. record { value = x; end = false } ∷ bs) (marked-append end (z ∷ xs) ys some)

-- flags without END
pub no-end : (flags : ℕ) → sets_end (without_end flags) ≡ false
no-end flags =
    let bit = bit_at_and flags 0xFFFFFFF7 3 in
    let zero : without_end flags / 8 % 2 ≡ 0 = bit ∙ (omega arith) in
    ap (λ n. n == 1) zero

-- ---- a write so far

-- the device that the link is to
device-now : (s t : ServedState) (lid : ℕ) (a : Addr) → t.core.interleaved.state.tables.links ≡ s.core.interleaved.state.tables.links → IsToDevice s lid a → IsToDevice t lid a
device-now s t lid a same d = record {
  link = d.link;
  live = ap (λ (ls : Table). find (λ (k : Link). (k.number == lid) && (k.connection == 1)) ls.links) same ∙ d.live;
  target = d.target;
}

-- one write behind another
both-heard : (first now next : ClientState LoopState) (lid : ℕ) (xs ys : List Byte) (s : ServedState) → IsSound s.core.interleaved → (p : IsHeard first now lid xs s) → IsHeard now next lid ys p.then_served
    → IsHeard first next lid (xs ++ ys) s
both-heard first now next lid xs ys s sound p q = record {
  then_served = q.then_served;
  rests = q.rests;
  before = p.before;
  alive = q.alive;
  links = q.links ∙ p.links;
  hears = λ a device.
      hears-append (gateway_of s.core) (gateway_of p.then_served.core) (gateway_of q.then_served.core) a xs ys sound (p.hears a device)
      (q.hears a (device-now s p.then_served lid a p.links device));
}

-- these bytes were heard without END, and others are left
pub record HasBegun (first now : ClientState LoopState) (lid : ℕ) (all rest : List ℕ) : Type 0 where
  pub sent : List ℕ
  pub cut : sent ++ rest ≡ all
  pub more : 0 < length rest
  pub sound : (s : ServedState) → IsResting first s → IsSound s.core.interleaved
  pub heard : (s : ServedState) → IsResting first s → IsHeard first now lid (marked_bytes false sent) s

-- before the first piece, or behind one
abbrev pub HeardSoFar : (first now : ClientState LoopState) (lid : ℕ) (all rest : List ℕ) → Type 0
HeardSoFar first now lid all rest = ((now ≡ first) × (rest ≡ all)) ⊎ HasBegun first now lid all rest

module _ (first now next : ClientState LoopState) (lid : ℕ) (all rest : List ℕ) where
  -- one piece more
  piece-behind : (end : Bool) (front later : List ℕ) → front ++ later ≡ rest → (0 < length rest → 0 < length front) → HeardSoFar first now lid all rest
      → ((s : ServedState) → IsResting now s → IsHeard now next lid (marked_bytes end front) s)
      → (sent : List ℕ) × (sent ++ later ≡ all) × ((s : ServedState) → IsResting first s → IsHeard first next lid (marked_bytes end sent) s)
  piece-behind end front later cut some (inl (same, whole)) piece =
      (front, cut ∙ whole, subst (λ c. (s : ServedState) → IsResting c s → IsHeard c next lid (marked_bytes end front) s) same piece)
  piece-behind end front later cut some (inr h) piece = (
    h.sent ++ front,
    append_assoc h.sent front later ∙ ap (λ xs. h.sent ++ xs) cut ∙ h.cut,
    λ s rests.
        (let p = h.heard s rests in
        subst (λ bs. IsHeard first next lid bs s) (marked-append end h.sent front (some h.more))
        (both-heard first now next lid (marked_bytes false h.sent) (marked_bytes end front) s (h.sound s rests) p (piece p.then_served p.rests))),
  )

  -- the gateway was sound before the first piece where it is before this one
  sound-first : ((s : ServedState) → IsResting now s → IsSound s.core.interleaved) → HeardSoFar first now lid all rest → (s : ServedState) → IsResting first s → IsSound s.core.interleaved
  sound-first sound (inl (same, whole)) s rests = sound s (subst (λ c. IsResting c s) (sym same) rests)
  sound-first sound (inr h) s rests = h.sound s rests

  -- a piece that others follow
  pub heard-more : (n : ℕ) (later : List ℕ) (flags : ℕ) → 1 ≤ n → n < length rest → later ≡ take (length rest - n) (drop n rest) → ((s : ServedState) → IsResting now s → IsSound s.core.interleaved) → HeardSoFar first now lid all rest
      → ((s : ServedState) → IsResting now s → IsHeard now next lid (marked_bytes (sets_end (without_end flags)) (take n rest)) s) → HeardSoFar first next lid all later
  heard-more n later flags some more later_is sound h piece =
      let len = length-drop n rest in
      let front = length-take n rest in
      let behind : later ≡ drop n rest = later_is ∙ take_all (length rest - n) (drop n rest) (omega arith) in
      let size = ap (λ (xs : List ℕ). length xs) behind in
      let q = piece-behind (sets_end (without_end flags)) (take n rest) later (ap (λ xs. take n rest ++ xs) behind ∙ take-append-drop n rest) (λ any. omega arith) h piece in
      inr (record {
        sent = q.0;
        cut = q.1;
        more = omega arith;
        sound = sound-first sound h;
        heard = λ s rests. subst (λ b. IsHeard first next lid (marked_bytes b q.0) s) (no-end flags) (q.2 s rests);
      })

  -- the last piece
  pub heard-last : (end : Bool) → HeardSoFar first now lid all rest → ((s : ServedState) → IsResting now s → IsHeard now next lid (marked_bytes end rest) s)
      → (s : ServedState) → IsResting first s → IsHeard first next lid (marked_bytes end all) s
  heard-last end h piece s rests =
      let q = piece-behind end rest [] (append-nil rest) (λ some. some) h piece in
      subst (λ xs. IsHeard first next lid (marked_bytes end xs) s) (sym (append-nil q.0) ∙ q.1) (q.2 s rests)

-- a piece found the connection ended only where the first did
pub closed-first : (first now new : ClientState LoopState) (lid : ℕ) (all rest : List ℕ) → HeardSoFar first now lid all rest
    → ((s : ServedState) → IsResting now s → FindsEnded new s) → (s : ServedState) → IsResting first s → FindsEnded new s
closed-first first now new lid all rest (inl (same, whole)) piece s rests = piece s (subst (λ c. IsResting c s) (sym same) rests)
closed-first first now new lid all rest (inr h) piece s rests =
    let p = h.heard s rests in absurd (false≢true (sym (piece p.then_served p.rests).before ∙ p.alive))

-- no piece was over a client between calls only where the first wasn't
pub sent-first : (first now : ClientState LoopState) (lid : ℕ) (all rest : List ℕ) → HeardSoFar first now lid all rest → ((s : ServedState) → IsResting now s → ⊥)
    → (s : ServedState) → IsResting first s → ⊥
sent-first first now lid all rest (inl (same, whole)) piece s rests = piece s (subst (λ c. IsResting c s) (sym same) rests)
sent-first first now lid all rest (inr h) piece s rests = let p = h.heard s rests in piece p.then_served p.rests
