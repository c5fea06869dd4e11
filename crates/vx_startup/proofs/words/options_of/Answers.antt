use Rattle.std.proofs.Common.{codes}
use Rattle.std.specs.Str.Parse.{ParsesUnsigned, ExplainsUnsignedError, HasUnsignedDigitsIfOk}
use Rattle.clap.specs.Words.{found_of}
use Rattle.vx_startup.proofs.Verdicts.{flag_set, number_given}
use Rattle.vx_startup.proofs.words.options_of.Goals as goal

pub returns-clause-sets : goal.returns-clause-sets
returns-clause-sets c =
    let found = found_of c.args.matches.now in
    let port = number_given (λ bs r. ParsesUnsigned 16 10 bs r × ExplainsUnsignedError 10 bs r × HasUnsignedDigitsIfOk bs r) 16 found in
    let number = number_given (λ bs r. ParsesUnsigned 32 10 bs r × ExplainsUnsignedError 10 bs r × HasUnsignedDigitsIfOk bs r) 32 found in
    record {
      core = port (codes "core") 1 65535 c.requires.core c.get_one.result c.unwrap.result (λ u x g. g.0)
          (c.get_one.ensures.value c.requires.core.0 c.requires.core.2) c.unwrap.ensures;
      abort = port (codes "abort") 1 65535 c.requires.abort c.get_one-2.result c.unwrap-2.result (λ u x g. g.0)
          (c.get_one-2.ensures.value c.requires.abort.0 c.requires.abort.2) c.unwrap-2.ensures;
      sample = number (codes "sample") 1 60000 c.requires.sample c.get_one-3.result c.unwrap-3.result (λ u x g. g.0)
          (c.get_one-3.ensures.value c.requires.sample.0 c.requires.sample.2) c.unwrap-3.ensures;
      workers = number (codes "workers") 1 64 c.requires.workers c.get_one-4.result c.unwrap-4.result (λ u x g. g.0)
          (c.get_one-4.ensures.value c.requires.workers.0 c.requires.workers.2) c.unwrap-4.ensures;
      limit = number (codes "limit") 0 1000000 c.requires.limit c.get_one-5.result c.unwrap-5.result (λ u x g. g.0)
          (c.get_one-5.ensures.value c.requires.limit.0 c.requires.limit.2) c.unwrap-5.ensures;
      keepalive = number (codes "keepalive") 0 86400 c.requires.keepalive c.get_one-6.result c.unwrap-6.result (λ u x g. g.0)
          (c.get_one-6.ensures.value c.requires.keepalive.0 c.requires.keepalive.2) c.unwrap-6.ensures;
      send_timeout = number (codes "send-timeout") 0 86400 c.requires.send_timeout c.get_one-7.result c.unwrap-7.result (λ u x g. g.0)
          (c.get_one-7.ensures.value c.requires.send_timeout.0 c.requires.send_timeout.2) c.unwrap-7.ensures;
      idle = number (codes "idle") 0 86400 c.requires.idle c.get_one-8.result c.unwrap-8.result (λ u x g. g.0)
          (c.get_one-8.ensures.value c.requires.idle.0 c.requires.idle.2) c.unwrap-8.ensures;
      abort_idle = number (codes "abort-idle") 0 86400 c.requires.abort_idle c.get_one-9.result c.unwrap-9.result (λ u x g. g.0)
          (c.get_one-9.ensures.value c.requires.abort_idle.0 c.requires.abort_idle.2) c.unwrap-9.ensures;
      patience = number (codes "patience") 1 1000 c.requires.patience c.get_one-10.result c.unwrap-10.result (λ u x g. g.0)
          (c.get_one-10.ensures.value c.requires.patience.0 c.requires.patience.2) c.unwrap-10.ensures;
      log = flag_set found (codes "log") c.get_flag.result c.requires.log (c.get_flag.ensures.none, c.get_flag.ensures.value, c.get_flag.ensures.other);
      map = flag_set found (codes "map") c.get_flag-2.result c.requires.map (c.get_flag-2.ensures.none, c.get_flag-2.ensures.value, c.get_flag-2.ensures.other);
    }
