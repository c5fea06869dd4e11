use Rattle.std.proofs.Common.{◌∙◌, map, string_bytes, subst}
use Rattle.std.proofs.lemmas.Result.{err_from_is_err_and}
use Rattle.vx_text.specs.Ends.{End, source_shown, sink_shown}
use Rattle.vx_text.specs.declared.input.Input.TheVariants as input
use Rattle.vx_sim.specs.Occupants.{handed_in}
use Rattle.vx_setup.specs.Spares.{spare_shown}
use Rattle.vx_startup.specs.Outcome.{ServerEnds, EndsBenched}
use Rattle.vx_startup.specs.Preparing.{Early, IsBench}
use Rattle.vx_startup.proofs.Early.{behind_words, behind_reading}
use Rattle.vx_startup.proofs.Laws.Answered.{answered}
use Rattle.vx_startup.proofs.preparing.prepare.Goals as goal

pub returns-in_err-text-clause-early : goal.returns-in_err-text-clause-early
returns-in_err-text-clause-early g c =
    let words = map string_bytes c.args.words.now in
    let rack = map (spare_shown (handed_in (λ i. g.I.Instrument.behaves i) (λ i. g.I.Instrument.nature i))) c.args.rack.now.items in
    let source : End = source_shown g.S.Source c.args.bench.now in
    let source' : End = source_shown g.S.Source c.bench_of.new.bench in
    let sink : End = sink_shown g.K.Sink c.options_of.new.sink in
    let sink' : End = sink_shown g.K.Sink c.bench_of.new.sink in
    let o = c.in_ok-options.options in
    let names = c.in_ok-options.names in
    let how = c.in_err-text.field-0.0 in
    let p = err_from_is_err_and c.from_residual-in_err-text.result c.from_residual-in_err-text.ensures.1 in
    answered (ServerEnds words rack source source') (sink_shown g.K.Sink c.args.sink.now) sink sink' _ how
    c.in_ok-options.ensures.silent
    (behind_words words rack source source' o names c.in_ok-options.ensures.set.0 sink sink' how c.in_ok-options.ensures.set.1 (c.in_err-text.ensures.early o rack)) (cc (p.1, p.2))

pub returns-in_err-bus-clause-early : goal.returns-in_err-bus-clause-early
returns-in_err-bus-clause-early g c =
    let words = map string_bytes c.args.words.now in
    let rack = map (spare_shown (handed_in (λ i. g.I.Instrument.behaves i) (λ i. g.I.Instrument.nature i))) c.args.rack.now.items in
    let source : End = source_shown g.S.Source c.args.bench.now in
    let source' : End = source_shown g.S.Source c.bench_of.new.bench in
    let sink : End = sink_shown g.K.Sink c.bench_of.new.sink in
    let sink' : End = sink_shown g.K.Sink c.bus_of.new.sink in
    let o = c.in_ok-options.options in
    let names = c.in_ok-options.names in
    let how = c.in_err-bus.field-0.0 in
    let set : Early (EndsBenched c.in_ok-text.text.items rack o) sink sink' how =
    subst (λ text. Early (EndsBenched text rack o) sink sink' how) c.deref.ensures.value (c.in_err-bus.ensures.early o) in
    let p = err_from_is_err_and c.from_residual-in_err-bus.result c.from_residual-in_err-bus.ensures.1 in
    answered (ServerEnds words rack source source') (sink_shown g.K.Sink c.args.sink.now) sink sink' _ how
    (c.in_ok-text.ensures.silent ∙ c.in_ok-options.ensures.silent)
    (behind_words words rack source source' o names c.in_ok-options.ensures.set.0 sink sink' how c.in_ok-options.ensures.set.1
    (behind_reading o rack source source' (input.Whole c.in_ok-text.text) sink sink' how c.in_ok-text.ensures.read set)) (cc (p.1, p.2))

pub returns-clause-ready : goal.returns-clause-ready
returns-clause-ready g c = record {
  file = c.in_ok-options.ensures.set.0;
  asks = c.in_ok-options.ensures.set.1;
  given = input.Whole c.in_ok-text.text;
  reads = c.in_ok-text.ensures.read;
  bench =
      subst (λ text. IsBench text (map (spare_shown (handed_in (λ i. g.I.Instrument.behaves i) (λ i. g.I.Instrument.nature i))) c.args.rack.now.items)) c.deref.ensures.value c.in_ok-bus.ensures.set;
}
