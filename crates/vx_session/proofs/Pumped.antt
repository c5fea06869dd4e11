-- How a pump comes on: the turns that it made so far, and the records that it wrote of what they were given.
use Rattle.std.proofs.Common.{◌≡◌, ◌≢◌, ◌≤◌, ℕ, Bool, List, [], ◌∷◌, ◌++◌, map, true, false, refl, sym, ap, ◌∙◌, subst, append_assoc, append-nil, arith}
use Rattle.std.proofs.lemmas.List.{map-append}
use Rattle.std.proofs.lemmas.List.Concat.{flat_map-append}
use Rattle.std.proofs.lemmas.List.Elements.{All-nil, All-push}
use Rattle.std.specs.List.{All}
use Rattle.vx_io_traits.specs.Faults.{Rose}
use Rattle.vx_io_traits.specs.Stands.{Goes}
use Rattle.vx_io_traits.specs.declared.links.Link.{Ghosts}
use Rattle.vx_io_traits.proofs.Laws.Goings.{Goes-none, Goes-goes}
use Rattle.vx_gate.specs.PassView.{PassView}
use Rattle.vx_exchange.specs.SrqState.{Given, Srq, Front, Empty, Gone}
use Rattle.vx_exchange.specs.Meaning.{srq_record}
use Rattle.vx_core.specs.Groups.{Group}
use Rattle.vx_session.specs.Placing.{Placed, Makes}
use Rattle.vx_session.specs.Origin.{Origin}
use Rattle.vx_session.specs.Turning.{TakesTurn}
use Rattle.vx_stream.specs.Shown.{LinkGoes, link_shown}
use Rattle.vx_stream.proofs.Laws.{link-none, link-goes, took-none, took-then}
use Rattle.vx_stream.specs.Calling.{OnlyTook}
use Rattle.vx_stream.specs.Sending.{IsSent, SendsAll}
use Rattle.vx_session.proofs.Laws.{makes-none, makes-goes}
use Rattle.vx_session.specs.Pumping.{Taking, IsTaking, given_record, taken_records, HaveLived, PumpEnds, Pumps}
use Rattle.vx_session.specs.declared.pumps.PumpEnd.{PumpEnd}
use Rattle.vx_session.specs.declared.pumps.PumpEnd.TheVariants as end

-- the records of turns, and of one more
records-more : (turns : List Taking) (t : Taking) → taken_records (turns ++ t ∷ []) ≡ taken_records turns ++ given_record t.given
records-more turns t =
    flat_map-append (λ (u : Taking). given_record u.given) turns (t ∷ [])
    ∙ ap (λ xs. taken_records turns ++ xs) (append-nil (given_record t.given))

-- the groups of turns, and of one more
makes-more : (pass pass' pass'' : PassView Group) (turns : List Taking) (t : Taking) → Makes 0 pass (map (λ u. u.placed) turns) pass' → Makes 0 pass' (t.placed ∷ []) pass''
    → Makes 0 pass (map (λ u. u.placed) (turns ++ t ∷ [])) pass''
makes-more pass pass' pass'' turns t before turn =
    let of : Taking → Placed = λ u. u.placed in
    subst (λ ps. Makes 0 pass ps pass'') (sym (map-append of turns (t ∷ [])))
    (makes-goes 0 0 pass pass' pass'' (map of turns) (t.placed ∷ []) (omega arith) before turn)

-- So far the pump made these turns, found the channel in each, and the link took the records of the interrupts that they were
-- given.
pub record Pumped {L : Type 0} (ways : Ghosts L) (pass : PassView Group) (conn chan : ℕ) (link : L) (pass' : PassView Group) (link' : L) : Type 0 where
  pub turns : List Taking
  pub written : List ℕ
  pub makes : Makes 0 pass (map (λ t. t.placed) turns) pass'
  pub each : All (IsTaking conn chan) turns
  pub lived : HaveLived turns
  pub bytes : Goes ways.stands link link' written []
  pub goes : LinkGoes (link_shown ways link) [] (link_shown ways link')
  pub calls : OnlyTook ways link written link'
  pub wrote : taken_records turns ≡ written

-- before its first turn
pub pumped-none : {L : Type 0} (ways : Ghosts L) (pass : PassView Group) (conn chan : ℕ) (link : L) → Pumped ways pass conn chan link pass link
pumped-none ways pass conn chan link = record {
  turns = [];
  written = [];
  makes = makes-none 0 pass;
  each = All-nil (IsTaking conn chan);
  lived = All-nil (λ t. t.given ≢ Gone);
  bytes = Goes-none ways.stands link;
  goes = link-none (link_shown ways link);
  calls = took-none ways link;
  wrote = refl;
}

module _ {B L : Type 0} {g : Origin B} {ways : Ghosts L} {pass : PassView Group} {conn chan : ℕ} {link : L} {given : Given} {pass' pass'' : PassView Group} {link' : L}
    (so_far : Pumped ways pass conn chan link pass' link') (turn : TakesTurn g pass' conn chan given pass'') where
  -- the turn, as one of those that it made
  abbrev t : Taking
  t = record { placed = turn.placed; given = given }

  module _ {link'' : L} {sent : List ℕ} (took : Goes ways.stands link' link'' sent []) (goes : LinkGoes (link_shown ways link') [] (link_shown ways link'')) (calls : OnlyTook ways link' sent link'') where
    -- it found the channel, and the link took the record of what it was given
    pumped-on : (given ≡ Gone → ⊥) → given_record given ≡ sent → Pumped ways pass conn chan link pass'' link''
    pumped-on lives wrote = record {
      turns = so_far.turns ++ t ∷ [];
      written = so_far.written ++ sent;
      makes = makes-more pass pass' pass'' so_far.turns t so_far.makes turn.turns.makes;
      each = All-push (IsTaking conn chan) so_far.turns t so_far.each (turn.taken, turn.steps);
      lived = All-push (λ u. u.given ≢ Gone) so_far.turns t so_far.lived lives;
      bytes = Goes-goes ways.stands link link' link'' so_far.written [] sent [] so_far.bytes took;
      goes = link-goes (link_shown ways link) (link_shown ways link') (link_shown ways link'') [] [] so_far.goes goes;
      calls = took-then ways link link' link'' so_far.written sent so_far.calls calls;
      wrote = records-more so_far.turns t ∙ ap (λ xs. xs ++ given_record given) so_far.wrote ∙ ap (λ xs. so_far.written ++ xs) wrote;
    }

    -- it was the last
    pumped-ends : (how : PumpEnd) (unsent : List ℕ) → given_record given ≡ sent ++ unsent → PumpEnds (link_shown ways link) so_far.turns t unsent (link_shown ways link'') how
        → Pumps g ways pass conn chan link how pass'' link''
    pumped-ends how unsent cut ends = record {
      earlier = so_far.turns;
      last = t;
      written = so_far.written ++ sent;
      unsent = unsent;
      makes = makes-more pass pass' pass'' so_far.turns t so_far.makes turn.turns.makes;
      history = turn.turns.history;
      each = All-push (IsTaking conn chan) so_far.turns t so_far.each (turn.taken, turn.steps);
      lived = so_far.lived;
      bytes = Goes-goes ways.stands link link' link'' so_far.written [] sent [] so_far.bytes took;
      goes = link-goes (link_shown ways link) (link_shown ways link') (link_shown ways link'') [] [] so_far.goes goes;
      calls = took-then ways link link' link'' so_far.written sent so_far.calls calls;
      wrote = records-more so_far.turns t
          ∙ ap (λ xs. xs ++ given_record given) so_far.wrote
          ∙ ap (λ xs. so_far.written ++ xs) cut
          ∙ sym (append_assoc so_far.written sent unsent);
      ends = ends;
    }

  -- the outbox was empty
  pub pumped-empty : given ≡ Empty → Pumped ways pass conn chan link pass'' link'
  pumped-empty is = pumped-on (Goes-none ways.stands link') (link-none (link_shown ways link')) (took-none ways link') (λ e. cc) (ap given_record is)

  -- the channel was gone
  pub pumped-gone : given ≡ Gone → Pumps g ways pass conn chan link end.ChannelGone pass'' link'
  pumped-gone is = pumped-ends (Goes-none ways.stands link') (link-none (link_shown ways link')) (took-none ways link') end.ChannelGone [] (ap given_record is) (is, refl)

  -- it was given an interrupt, and all of its record was sent
  pub pumped-sent : (srq : Srq) {bytes : List ℕ} {all : Bool} {link'' : L} → given ≡ Front srq → SendsAll ways link' bytes all link'' → bytes ≡ srq_record srq → all ≡ true
      → Pumped ways pass conn chan link pass'' link''
  pumped-sent srq {link'' = link''} is sends is_record is_all =
      let none_left : IsSent (link_shown ways link') sends.unsent (link_shown ways link'') true = subst (λ a. IsSent (link_shown ways link') sends.unsent (link_shown ways link'') a) is_all sends.is_sent in
      pumped-on sends.took sends.goes sends.calls (λ e. cc)
      (ap given_record is ∙ sym is_record ∙ sends.cut ∙ ap (λ ys. sends.sent ++ ys) none_left ∙ append-nil sends.sent)

  -- or a send of it failed
  pub pumped-fails : (srq : Srq) {bytes : List ℕ} {all : Bool} {link'' : L} → given ≡ Front srq → SendsAll ways link' bytes all link'' → bytes ≡ srq_record srq → all ≡ false
      → Pumps g ways pass conn chan link end.WriteFault pass'' link''
  pumped-fails srq {link'' = link''} is sends is_record is_cut =
      let some_left : IsSent (link_shown ways link') sends.unsent (link_shown ways link'') false = subst (λ a. IsSent (link_shown ways link') sends.unsent (link_shown ways link'') a) is_cut sends.is_sent in
      let cut : given_record given ≡ sends.sent ++ sends.unsent = ap given_record is ∙ sym is_record ∙ sends.cut in
      let earlier : ways.send_faults link ≤ ways.send_faults link' = so_far.goes.sends in
      let rose : Rose (ways.send_faults link') (ways.send_faults link'') = some_left.1 in
      let risen : Rose (ways.send_faults link) (ways.send_faults link'') = omega arith in
      pumped-ends sends.took sends.goes sends.calls end.WriteFault sends.unsent cut (sends.sent, cut, some_left.0, risen)
