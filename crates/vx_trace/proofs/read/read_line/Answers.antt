use Rattle.vx_trace.proofs.Answered.{endless-line, ended, some-line, none-line}
use Rattle.vx_trace.proofs.read.read_line.Goals as goal

pub returns-in_err-strip_suffix-clause-none : goal.returns-in_err-strip_suffix-clause-none
returns-in_err-strip_suffix-clause-none c =
    rw c.from_residual.ensures (endless-line c.args.text.now c.as_slice.result.now c.as_slice.ensures c.in_err-strip_suffix.ensures.cases)

pub returns-clause-some : goal.returns-clause-some
returns-clause-some c =
    let body = c.in_ok-strip_suffix.field-0.now in
    let parts = c.in_ok-strip_suffix.ensures.cases in
    let text = ended c.args.text.now c.as_slice.result.now body c.as_slice.ensures parts.0 parts.1 in
    some-line c.args.text.now body c.line1_of.result text c.line1_of.ensures

pub returns-clause-none : goal.returns-clause-none
returns-clause-none c =
    let body = c.in_ok-strip_suffix.field-0.now in
    let parts = c.in_ok-strip_suffix.ensures.cases in
    let text = ended c.args.text.now c.as_slice.result.now body c.as_slice.ensures parts.0 parts.1 in
    none-line c.args.text.now body c.line1_of.result text c.line1_of.ensures
