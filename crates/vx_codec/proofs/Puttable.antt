-- What was read can be written: its byte strings are no longer than their fields allow.
use Rattle.std.proofs.Common.{List, ℕ, sym, subst, arith}
use Rattle.vx_calls.specs.declared.calls.Proc.{Proc}
use Rattle.vx_calls.specs.declared.calls.Proc.TheVariants as proc
use Rattle.vx_calls.specs.Call.{Call}
use Rattle.vx_codec.specs.Row.{Contents, SpellsRow}
use Rattle.vx_codec.specs.Asked.{arguments_of, call_of, Asks, IsPuttable}

spelled-puttable : (p : Proc) (values : Contents (arguments_of p)) (bytes : List ℕ) → SpellsRow (arguments_of p) values bytes → IsPuttable (call_of p values)
spelled-puttable proc.CreateLink values bytes h = h.3.3.3.2.within
spelled-puttable proc.Write values bytes h = let within = h.3.3.3.3.2.within in omega arith
spelled-puttable proc.Docmd values bytes h = let within = h.3.3.3.3.3.3.3.2.within in omega arith
spelled-puttable _ values bytes h = tt

pub Asks-puttable : (p : Proc) (call : Call) (bytes : List ℕ) → Asks p call bytes → IsPuttable call
Asks-puttable p call bytes h = subst IsPuttable (sym h.1) (spelled-puttable p h.0 bytes h.2)
