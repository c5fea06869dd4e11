use Rattle.std.proofs.Common.{sym, ◌∙◌, refl}
use Rattle.vx_loop.proofs.Starting.{on-err, on-ok, if-ok, new-kept, new-begins, new-up}
use Rattle.vx_loop.proofs.served.Serving.new.Goals as goal

pub returns-then-is_err-clause-refused : goal.returns-then-is_err-clause-refused
returns-then-is_err-clause-refused g c = on-err _ _ (sym c.is_err.ensures.value ∙ c.if-is_err.true) c.connect.ensures.err

pub returns-clause-kept : goal.returns-clause-kept
returns-clause-kept g c =
    let ok = if-ok _ _ (sym c.is_err.ensures.value ∙ c.if-is_err.false) c.connect.ensures.ok in
    new-kept c.args.core c.connect.new.self ok.0 c.requires.unconnected ok.1 c.in-Ok-new.buffer 0 _ c.in-Ok-new.ensures

pub returns-clause-begins : goal.returns-clause-begins
returns-clause-begins g c =
    let ok = if-ok _ _ (sym c.is_err.ensures.value ∙ c.if-is_err.false) c.connect.ensures.ok in
    new-begins c.args.core c.connect.new.self ok.0 c.requires.unconnected ok.1 c.in-Ok-new.buffer 0 _ c.in-Ok-new.ensures
    (on-ok _ _ (sym c.is_err.ensures.value ∙ c.if-is_err.false) c.connect.ensures.walk) refl

pub returns-clause-up : goal.returns-clause-up
returns-clause-up g c =
    let ok = if-ok _ _ (sym c.is_err.ensures.value ∙ c.if-is_err.false) c.connect.ensures.ok in
    new-up c.args.core c.connect.new.self ok.0 c.requires.unconnected ok.1 (on-ok _ _ (sym c.is_err.ensures.value ∙ c.if-is_err.false) c.connect.ensures.walk)
