-- A server that ends before it comes to its ports ends as its words, its bench and its box say.
use Rattle.std.proofs.Common.{ℕ, List, [], ◌∷◌, Ok, Err, Option, refl, sym, subst, inl, inr}
use Rattle.std.specs.Prelude.{String}
use Rattle.std.specs.declared.alloc.Global.{Global}
use Rattle.vx_text.specs.Ends.{End}
use Rattle.vx_text.specs.declared.input.Input.{Input}
use Rattle.vx_text.specs.declared.input.Input.TheVariants as input
use Rattle.vx_startup.specs.declared.words.Options.{Options}
use Rattle.vx_startup.specs.declared.words.Asked.{Asked}
use Rattle.vx_startup.specs.declared.words.Asked.TheVariants as asked
use Rattle.vx_startup.specs.declared.status.ServerStatus.{ServerStatus}
use Rattle.vx_startup.specs.declared.status.ServerStatus.TheVariants as status
use Rattle.vx_startup.specs.Meant.{ServerAnswers}
use Rattle.vx_startup.specs.Outcome.{ServerIo, PutsLast}
use Rattle.vx_startup.specs.Preparing.{Early, outside}
use Rattle.vx_startup.specs.Running.{NetShown, ServerEndsRun}
use Rattle.vx_upstream.specs.Sending.{LinkWords}
use Rattle.vx_upstream.specs.declared.open.OpenErr.{OpenErr}
use Rattle.vx_upstream.specs.declared.open.OpenErr.TheVariants as cause
use Rattle.vx_relay.specs.Place.{Place, IsPlace, NoPlace}
use Rattle.vx_relay.specs.Lines.{relay_usage_line}
use Rattle.vx_relay.specs.Readying.{EndsAtWords, EndsUnserved, EndsAtBench, EndsByInput, EndsByBench, EndsAtOpening, EndsByOpening, HasNoBench, IsEmpty, IsRelayReady}
use Rattle.vx_relay.specs.Relaying.{EndsAtBox, EndsBenchless, EndsOpened, EndsRelayAsked, EndsRelayRead, RelayEnds}

module _ {L : Type 0} (w : LinkWords L) (link : L) where
  -- at words that name no box
  pub unplaced : (words : List (List ℕ)) (source : End) (sink sink' : End) (how : ServerStatus)
      → NoPlace words → PutsLast status.Usage relay_usage_line sink sink' how → Early (RelayEnds w link words source source) sink sink' how
  unplaced words source sink sink' how none puts net refused tally = inr (record { none = none; unread = refl; tells = ((refl, refl), puts) })

  -- at the words behind the box
  asked_so : (place : Place) (request : Asked) (source : End) (sink sink' : End) (how : ServerStatus) (net : NetShown) (refused tally : ℕ)
      → EndsUnserved request sink sink' how → EndsRelayAsked w link place request source source (outside net refused sink) (outside net refused sink') tally how
  asked_so place (asked.Serve o names file) source sink sink' how net refused tally ends = absurd ends
  asked_so place (asked.Tell text) source sink sink' how net refused tally ends = (refl, ((refl, refl), ends))
  asked_so place asked.Usage source sink sink' how net refused tally ends = (refl, ((refl, refl), ends))
  asked_so place asked.NoMemory source sink sink' how net refused tally ends = (refl, (((refl, refl), ends.0), ends.1))

  pub at_words : (words : List (List ℕ)) (place : Place) (rest : List (List ℕ)) (source : End) (sink sink' : End) (how : ServerStatus)
      → IsPlace words place rest → EndsAtWords rest sink sink' how → Early (RelayEnds w link words source source) sink sink' how
  at_words words place rest source sink sink' how is ends net refused tally = inl (record {
    place = place;
    rest = rest;
    is = is;
    request = ends.request;
    asks = ends.asks;
    ends = asked_so place ends.request source sink sink' how net refused tally ends.ends;
  })

  -- at the bench
  benched_so : (place : Place) (o : Options) (bench : List ℕ) (sink sink' : End) (how : ServerStatus) (net : NetShown) (refused tally : ℕ)
      → EndsByBench bench sink sink' how → EndsBenchless w link place bench o (outside net refused sink) (outside net refused sink') tally how
  benched_so place o [] sink sink' how net refused tally ends = absurd ends
  benched_so place o (b ∷ bytes) sink sink' how net refused tally ends = ((refl, refl), ends)

  read_so : (place : Place) (o : Options) (given : Input) (sink sink' : End) (how : ServerStatus) (net : NetShown) (refused tally : ℕ)
      → EndsByInput given sink sink' how → EndsRelayRead w link place given o (outside net refused sink) (outside net refused sink') tally how
  read_so place o (input.Whole bench) sink sink' how net refused tally ends = benched_so place o bench.items sink sink' how net refused tally ends
  read_so place o input.TooLong sink sink' how net refused tally ends = ((refl, refl), ends)
  read_so place o input.Failed sink sink' how net refused tally ends = (((refl, refl), ends.0), ends.1)
  read_so place o input.NoMemory sink sink' how net refused tally ends = (((refl, refl), ends.0), ends.1)

  pub at_bench : (words : List (List ℕ)) (place : Place) (rest : List (List ℕ)) (o : Options) (names : List (List ℕ × List ℕ)) (file : Option (String Global)) (source source' : End) (sink sink' : End) (how : ServerStatus)
      → IsPlace words place rest → ServerAnswers rest (asked.Serve o names file) → EndsAtBench source source' sink sink' how
      → Early (RelayEnds w link words source source') sink sink' how
  at_bench words place rest o names file source source' sink sink' how is asks ends net refused tally = inl (record {
    place = place;
    rest = rest;
    is = is;
    request = asked.Serve o names file;
    asks = asks;
    ends = record { given = ends.given; reads = ends.reads; ends = read_so place o ends.given sink sink' how net refused tally ends.ends };
  })

  -- at the box, behind a bench in which nothing stands
  benchless : (place : Place) (o : Options) (given : Input) (before after : ServerIo) (tally : ℕ) (how : ServerStatus)
      → IsEmpty given → EndsAtBox w link place o before after tally how → EndsRelayRead w link place given o before after tally how
  benchless place o (input.Whole bench) before after tally how empty ends =
      subst (λ bytes. EndsBenchless w link place bytes o before after tally how) (sym empty) ends
  benchless place o input.TooLong before after tally how empty ends = absurd empty
  benchless place o input.Failed before after tally how empty ends = absurd empty
  benchless place o input.NoMemory before after tally how empty ends = absurd empty

  opened_so : (o : Options) (e : OpenErr) (sink sink' : End) (how : ServerStatus) (net : NetShown) (refused tally : ℕ)
      → EndsByOpening e sink sink' how → EndsOpened (Err e) o (outside net refused sink) (outside net refused sink') tally how
  opened_so o cause.NoMemory sink sink' how net refused tally ends = (((refl, refl), ends.0), ends.1)
  opened_so o cause.NoReach sink sink' how net refused tally ends = ((refl, refl), ends)
  opened_so o (cause.NoLink e) sink sink' how net refused tally ends = ((refl, refl), ends)
  opened_so o (cause.NoClear e) sink sink' how net refused tally ends = ((refl, refl), ends)
  opened_so o (cause.NoRemoteOff e) sink sink' how net refused tally ends = ((refl, refl), ends)
  opened_so o (cause.NoAddress e) sink sink' how net refused tally ends = ((refl, refl), ends)

  pub at_opening : (words : List (List ℕ)) (place : Place) (rest : List (List ℕ)) (o : Options) (names : List (List ℕ × List ℕ)) (file : Option (String Global)) (source source' : End) (sink sink' : End) (how : ServerStatus)
      → IsPlace words place rest → ServerAnswers rest (asked.Serve o names file) → HasNoBench source source' → EndsAtOpening w link place o.patience sink sink' how
      → Early (RelayEnds w link words source source') sink sink' how
  at_opening words place rest o names file source source' sink sink' how is asks bench ends net refused tally = inl (record {
    place = place;
    rest = rest;
    is = is;
    request = asked.Serve o names file;
    asks = asks;
    ends = record {
      given = bench.given;
      reads = bench.reads;
      ends =
          benchless place o bench.given (outside net refused sink) (outside net refused sink') tally how bench.empty
          (record { opened = Err ends.cause_is; opens = ends.unopened; ends = opened_so o ends.cause_is sink sink' how net refused tally ends.ends });
    };
  })

  -- one that is ready ends as its run ends
  pub relayed : (words : List (List ℕ)) (source source' : End) (o : Options) (names : List (List ℕ × List ℕ)) (before after : ServerIo) (tally : ℕ) (how : ServerStatus)
      → IsRelayReady w link words source source' o names → ServerEndsRun o before.ports before.refused after.ports after.refused tally how
      → RelayEnds w link words source source' before after tally how
  relayed words source source' o names before after tally how r run = inl (record {
    place = r.place;
    rest = r.rest;
    is = r.is;
    request = asked.Serve o names r.file;
    asks = r.asks;
    ends = record {
      given = r.bench.given;
      reads = r.bench.reads;
      ends = benchless r.place o r.bench.given before after tally how r.bench.empty (record { opened = Ok tt; opens = r.opens; ends = run });
    };
  })
