use Rattle.std.proofs.Common.{◌≡◌, refl, arith}
use Rattle.std.proofs.lemmas.List.Elements.{All-nil}
use Rattle.vx_flow.specs.InterleavedState.{first_interleaved}
use Rattle.vx_group.proofs.theorems.first_law.Goals as goal

pub returns : goal.returns
returns c abort_port = record {
  last = first_interleaved abort_port;
  allowed = refl;
  same = refl;
  later = omega arith;
  moment = refl;
  slots = All-nil (λ g. g.abort_port ≡ abort_port);
  rise = tt;
}
