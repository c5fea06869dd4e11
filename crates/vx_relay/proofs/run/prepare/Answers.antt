use Rattle.std.proofs.Common.{◌∙◌, map, string_bytes, refl}
use Rattle.std.proofs.lemmas.Result.{err_from_is_err_and}
use Rattle.vx_text.specs.Ends.{End, source_shown, sink_shown}
use Rattle.vx_startup.proofs.Laws.Answered.{answered}
use Rattle.vx_upstream.specs.Sending.{words_of}
use Rattle.vx_relay.specs.Place.{place_shown}
use Rattle.vx_relay.specs.Relaying.{RelayEnds}
use Rattle.vx_relay.proofs.Ending.{unplaced, at_words, at_bench, at_opening}
use Rattle.vx_relay.proofs.run.prepare.Goals as goal

pub returns-in_default-clause-early : goal.returns-in_default-clause-early
returns-in_default-clause-early g c =
    unplaced (words_of g.L.Link g.L.Reach.refused g.L.Reach.tries) c.args.link (map string_bytes c.args.words.now) (source_shown g.S.Source c.args.bench.now)
    (sink_shown g.K.Sink c.args.sink.now) (sink_shown g.K.Sink c.put_last.new.sink) c.put_last.result (c.place_of.ensures.none c.in_default.is) c.put_last.ensures

pub returns-in_err-options-clause-early : goal.returns-in_err-options-clause-early
returns-in_err-options-clause-early g c =
    let w = words_of g.L.Link g.L.Reach.refused g.L.Reach.tries in
    let words = map string_bytes c.args.words.now in
    let source : End = source_shown g.S.Source c.args.bench.now in
    let first : End = sink_shown g.K.Sink c.args.sink.now in
    let sink' : End = sink_shown g.K.Sink c.options_of.new.sink in
    let how = c.in_err-options.field-0.0 in
    let p = err_from_is_err_and c.from_residual.result c.from_residual.ensures.1 in
    answered (RelayEnds w c.args.link words source source) first first sink' _ how refl
    (at_words w c.args.link words (place_shown c.in-Some.upstream) (map string_bytes c.in-Some.rest.now) source first sink' how c.in-Some.ensures.some c.in_err-options.ensures.early)
    (cc (p.1, p.2))

pub returns-in_err-no_bench-clause-early : goal.returns-in_err-no_bench-clause-early
returns-in_err-no_bench-clause-early g c =
    let w = words_of g.L.Link g.L.Reach.refused g.L.Reach.tries in
    let words = map string_bytes c.args.words.now in
    let source : End = source_shown g.S.Source c.args.bench.now in
    let source' : End = source_shown g.S.Source c.no_bench.new.bench in
    let sink : End = sink_shown g.K.Sink c.options_of.new.sink in
    let sink' : End = sink_shown g.K.Sink c.no_bench.new.sink in
    let how = c.in_err-no_bench.field-0.0 in
    let p = err_from_is_err_and c.from_residual-in_err-no_bench.result c.from_residual-in_err-no_bench.ensures.1 in
    answered (RelayEnds w c.args.link words source source') (sink_shown g.K.Sink c.args.sink.now) sink sink' _ how c.in_ok-options.ensures.silent
    (at_bench w c.args.link words (place_shown c.in-Some.upstream) (map string_bytes c.in-Some.rest.now) c.in_ok-options.options c.in_ok-options.names c.in_ok-options.ensures.set.0 source source' sink sink' how
    c.in-Some.ensures.some c.in_ok-options.ensures.set.1 c.in_err-no_bench.ensures.early) (cc (p.1, p.2))

pub returns-in_err-bus-clause-early : goal.returns-in_err-bus-clause-early
returns-in_err-bus-clause-early g c =
    let w = words_of g.L.Link g.L.Reach.refused g.L.Reach.tries in
    let words = map string_bytes c.args.words.now in
    let source : End = source_shown g.S.Source c.args.bench.now in
    let source' : End = source_shown g.S.Source c.no_bench.new.bench in
    let sink : End = sink_shown g.K.Sink c.no_bench.new.sink in
    let sink' : End = sink_shown g.K.Sink c.open_bus.new.sink in
    let how = c.in_err-bus.field-0.0 in
    let p = err_from_is_err_and c.from_residual-in_err-bus.result c.from_residual-in_err-bus.ensures.1 in
    answered (RelayEnds w c.args.link words source source') (sink_shown g.K.Sink c.args.sink.now) sink sink' _ how
    (c.in_ok-no_bench.ensures.silent ∙ c.in_ok-options.ensures.silent)
    (at_opening w c.args.link words (place_shown c.in-Some.upstream) (map string_bytes c.in-Some.rest.now) c.in_ok-options.options c.in_ok-options.names c.in_ok-options.ensures.set.0 source source' sink sink' how
    c.in-Some.ensures.some c.in_ok-options.ensures.set.1 c.in_ok-no_bench.ensures.none c.in_err-bus.ensures.early) (cc (p.1, p.2))
