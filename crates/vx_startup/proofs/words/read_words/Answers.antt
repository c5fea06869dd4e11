use Rattle.std.proofs.Common.{◌∙◌, map, string_bytes, sym, ap, subst}
use Rattle.clap.specs.Words.{App, HasKind, fault_of, found_of, is_simple, is_simple_and_free, kind_of, matches_of, rows_of}
use Rattle.vx_startup.proofs.Values.{all_given}
use Rattle.vx_startup.proofs.Verdicts.{answered, served, simple, simple_and_free}
use Rattle.vx_startup.proofs.words.read_words.Goals as goal

pub served-requires : goal.served-requires
served-requires c =
    all_given c.in-Ok.command c.in-Ok.ensures c.in-Ok-try_get_matches_from.matches c.in-Ok-try_get_matches_from.ensures.parsed

pub returns-in-Ok-try_get_matches_from : goal.returns-in-Ok-try_get_matches_from
returns-in-Ok-try_get_matches_from c =
    let words = map string_bytes c.args.words.now in
    let same = c.in-Ok.ensures in
    let parse = c.in-Ok-try_get_matches_from in
    let none = parse.ensures.kinds (ap is_simple_and_free same ∙ simple_and_free) in
    let found = (parse.ensures.matches (ap is_simple same ∙ simple)).0 in
    record {
      answer = served words (rows_of (found_of parse.matches)) c.served.result (found ∙ ap (λ (a : App). matches_of a words) same)
          (ap (λ (a : App). fault_of a words) (sym same) ∙ none) c.served.ensures;
    }

pub returns-in-Err : goal.returns-in-Err
returns-in-Err c =
    let words = map string_bytes c.args.words.now in
    let same = c.in-Ok.ensures in
    let why = c.in-Err.ensures.kinds (ap is_simple_and_free same ∙ simple_and_free) in
    record {
      answer = answered words (kind_of c.in-Err.error) c.refused.result c.refused.ensures
          (subst (λ (a : App). HasKind (fault_of a words) c.in-Err.error) same why);
    }
