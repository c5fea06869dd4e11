use Rattle.std.proofs.Common.{◌≤◌, ◌+◌, length, arith}
use Rattle.std.specs.Prelude.{map}
use Rattle.std.proofs.lemmas.List.{length-map}
use Rattle.vx_inst.specs.declared.TheConstants.{INST_MAX}
use Rattle.vx_inst.specs.Marks.{shown}
use Rattle.vx_inst.proofs.Replies.{shown-appended}
use Rattle.vx_inst.proofs.body.append.Goals as goal

pub returns-in-Some-clause-appended : goal.returns-in-Some-clause-appended
returns-in-Some-clause-appended c =
    let fits : length (map shown c.args.out.now.items) + length c.args.reply.now ≤ INST_MAX =
    omega (arith, length-map c.args.out.now.items shown) in
    shown-appended c.args.out.now.items c.append_unmarked.new.out.items _ c.in-Some.front.now c.args.reply.now c.in-Some.last.now
    c.push_back_reserved.ensures.items c.append_unmarked.ensures.appended c.in-Some.ensures.cases.0 fits
