use Rattle.std.proofs.Common.{refl, sym, ap, ◌∙◌}
use Rattle.vx_rules.specs.State.{Tables}
use Rattle.vx_rules.specs.Lines.{is_in_line}
use Rattle.vx_state.proofs.InLine.{first_passing, goes_on, own_found, one_found, none_found}
use Rattle.vx_state.proofs.tables.Tables.first_in_line.Goals as goal

pub loop-other-init : goal.loop-other-init
loop-other-init c = record { rest = refl }

pub loop-other-preserved : goal.loop-other-preserved
loop-other-preserved c =
    goes_on (is_in_line c.args.self.now c.args.busy c.args.now c.args.target) c.args.conn c.as_slice-arrivals.result.now c.loop-other.other-index c.loop-other-test.true
    c.loop-other.invariant c.if-other-conn.false (sym c.is_in_line.ensures ∙ c.if-is_in_line.false)

pub returns-then-other-conn : goal.returns-then-other-conn
returns-then-other-conn c =
    let p = is_in_line c.args.self.now c.args.busy c.args.now c.args.target in
    own_found p c.args.conn c.as_slice-arrivals.result.now c.loop-other.other-index c.loop-other-test.true c.loop-other.invariant c.if-other-conn.true
    ∙ ap (first_passing p c.args.conn) (c.as_slice-arrivals.ensures.value ∙ ap (λ (t : Tables). t.arrivals) c.self.view_is)

pub returns-then-is_in_line : goal.returns-then-is_in_line
returns-then-is_in_line c =
    let p = is_in_line c.args.self.now c.args.busy c.args.now c.args.target in
    one_found p c.args.conn c.as_slice-arrivals.result.now c.loop-other.other-index c.loop-other-test.true c.loop-other.invariant c.if-other-conn.false
    (sym c.is_in_line.ensures ∙ c.if-is_in_line.true)
    ∙ ap (first_passing p c.args.conn) (c.as_slice-arrivals.ensures.value ∙ ap (λ (t : Tables). t.arrivals) c.self.view_is)

pub returns : goal.returns
returns c =
    let p = is_in_line c.args.self.now c.args.busy c.args.now c.args.target in
    none_found p c.args.conn c.as_slice-arrivals.result.now c.loop-other.other-index c.loop-other-test.false c.loop-other.invariant
    ∙ ap (first_passing p c.args.conn) (c.as_slice-arrivals.ensures.value ∙ ap (λ (t : Tables). t.arrivals) c.self.view_is)
