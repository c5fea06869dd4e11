use Rattle.std.proofs.Common.{ap, ◌∙◌, subst, append-nil}
use Rattle.vx_calls.specs.Call.{call_shown}
use Rattle.vx_record.specs.Fragments.{record_of}
use Rattle.vx_rpc.specs.Wording.{success_message}
use Rattle.vx_exchange.specs.Meaning.{by_call}
use Rattle.vx_exchange.specs.Opening.{FitsRole}
use Rattle.vx_rules.proofs.Laws.{asks-wait}
use Rattle.vx_exchange.proofs.Laws.{asks-core, fits-core}
use Rattle.vx_exchange.proofs.opened.open_call.Goals as goal

pub returns-in-Null-clause-opens : goal.returns-in-Null-clause-opens
returns-in-Null-clause-opens c =
    let put = c.put_success_record.ensures in (
      success_message c.args.xid,
      ap (λ r. by_call c.args.xid (call_shown r)) c.in-Null.is,
      record { record_is = put.record ∙ ap record_of (append-nil (success_message c.args.xid)); some = put.some; within = put.within },
    )

pub returns-in-DeviceAbort-clause-opens : goal.returns-in-DeviceAbort-clause-opens
returns-in-DeviceAbort-clause-opens c = ap (λ r. by_call c.args.xid (call_shown r)) c.in-DeviceAbort.is

pub returns-in-DeviceAbort-clause-role : goal.returns-in-DeviceAbort-clause-role
returns-in-DeviceAbort-clause-role c = λ r fits short. subst (λ k. FitsRole r (call_shown k)) c.in-DeviceAbort.is fits

pub returns-in_default-clause-opens : goal.returns-in_default-clause-opens
returns-in_default-clause-opens c = asks-core c.args.call c.args.xid c.in_default.not-Null c.in_default.not-DeviceAbort

pub returns-in_default-clause-role : goal.returns-in_default-clause-role
returns-in_default-clause-role c = λ r fits short. (
  fits-core c.args.call r c.in_default.not-Null c.in_default.not-DeviceAbort fits,
  asks-wait c.args.call c.in_default.not-Null c.in_default.not-DeviceAbort,
  short,
)
