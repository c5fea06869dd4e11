-- Of which channel a call is, by its procedure.
use Rattle.std.proofs.Common.{ℕ, IsTrue, List, refl, sym, subst}
use Rattle.std.proofs.lemmas.Bool.{false≢true}
use Rattle.vx_calls.specs.declared.calls.Role.{Role}
use Rattle.vx_calls.specs.declared.calls.Role.TheVariants as role
use Rattle.vx_calls.specs.declared.calls.Proc.{Proc}
use Rattle.vx_calls.specs.declared.calls.Proc.TheVariants as proc
use Rattle.vx_calls.specs.Call.{Call}
use Rattle.vx_rpc.specs.Procedure.{serves}
use Rattle.vx_codec.specs.Asked.{Asks, arguments_of, call_of}
use Rattle.vx_codec.specs.Row.{Contents}
use Rattle.vx_exchange.specs.Opening.{FitsRole}

-- a call of a procedure that a channel has is of this channel
fits-at : (r : Role) (p : Proc) (values : Contents (arguments_of p)) → IsTrue (serves r p) → FitsRole r (call_of p values)
fits-at role.Core proc.Null values served = tt
fits-at role.Abort proc.Null values served = tt
fits-at role.Core proc.DeviceAbort values served = absurd (false≢true served)
fits-at role.Abort proc.DeviceAbort values served = refl
fits-at role.Core _ values served = refl
fits-at role.Abort _ values served = absurd (false≢true served)

-- so is one that was read
pub fits : (r : Role) (p : Proc) (asked : Call) (args : List ℕ) → IsTrue (serves r p) → Asks p asked args → FitsRole r asked
fits r p asked args served asks = subst (λ c. FitsRole r c) (sym asks.1) (fits-at r p asks.0 served)
