use Rattle.std.proofs.Common.{◌≡◌, [], ◌∷◌, sym, ◌∙◌, ap}
use Rattle.std.specs.Option.{option_copied, option_map_or}
use Rattle.vx_calls.specs.Target.{comma_parts, target_of_parts, target}
use Rattle.vx_calls.proofs.TargetLemmas.{target_of-parted}
use Rattle.vx_calls.proofs.Laws.TargetClauses.{target-says}
use Rattle.vx_calls.proofs.targets.target_of.Goals as goal

pub returns-in-Some : goal.returns-in-Some
returns-in-Some c =
    let own = c.args.own in
    let text = c.args.text.now in
    let name = c.cut_at_comma.result.0.now in
    let primary = c.cut_at_comma-in-Some.result.0.now in
    let secondary = option_copied c.cut_at_comma-in-Some.result.1 in
    let pieces : comma_parts text ≡ name ∷ primary ∷ option_map_or comma_parts secondary [] =
    c.cut_at_comma.ensures
    ∙ ap (λ numbers. name ∷ option_map_or comma_parts (option_copied numbers) []) c.in-Some.is
    ∙ ap (λ parts. name ∷ parts) c.cut_at_comma-in-Some.ensures in
    let value : c.device_of.result ≡ target text own =
    c.device_of.ensures ∙ target_of-parted own name primary secondary ∙ ap (target_of_parts own) (sym pieces) in
    let says = target-says text own c.device_of.result value in
    record {
      value = says.value;
      reachable = says.reachable;
      syntax = says.syntax;
      not_accessible = says.not_accessible;
      invalid_address = says.invalid_address;
      ok = says.ok;
    }

pub returns-in-None : goal.returns-in-None
returns-in-None c =
    let own = c.args.own in
    let text = c.args.text.now in
    let name = c.cut_at_comma.result.0.now in
    let pieces : comma_parts text ≡ name ∷ [] =
    c.cut_at_comma.ensures
    ∙ ap (λ numbers. name ∷ option_map_or comma_parts (option_copied numbers) []) c.in-None.is in
    let value : c.interface_of.result ≡ target text own =
    c.interface_of.ensures ∙ ap (target_of_parts own) (sym pieces) in
    let says = target-says text own c.interface_of.result value in
    record {
      value = says.value;
      reachable = says.reachable;
      syntax = says.syntax;
      not_accessible = says.not_accessible;
      invalid_address = says.invalid_address;
      ok = says.ok;
    }
