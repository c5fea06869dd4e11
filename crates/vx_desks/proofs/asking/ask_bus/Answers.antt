use Rattle.std.proofs.Common.{◌≡◌, length, take, drop, ◌∙◌}
use Rattle.std.proofs.lemmas.List.{take_at, length-take-le}
use Rattle.vx_calls.specs.declared.calls.Role.TheVariants as role
use Rattle.vx_calls.specs.Call.{call_shown}
use Rattle.vx_desks.specs.Passing.{passes_shown}
use Rattle.vx_desks.specs.Standing.{gates_shown, firsts_shown}
use Rattle.vx_desks.specs.Holding.{four_of}
use Rattle.vx_desks.proofs.Asked.{asked-on-bus, conn-at, first-gate, first-idle, last-idle}
use Rattle.vx_desks.proofs.asking.ask_bus.Goals as goal

pub answer_call-own-requires : goal.answer_call-own-requires
answer_call-own-requires g c =
    let conn = conn-at c.args.worker.now.conns c.args.bus c.requires.bus in
    record {
      gate = first-gate (passes_shown c.args.passes) c.args.bus (passes_shown c.swapped-own.result) (gates_shown c.args.worker.now.buses.now) _ c.swapped-own.ensures c.gate.ensures.gate c.requires.gates;
      phase = first-idle (passes_shown c.args.passes) c.args.bus (passes_shown c.swapped-own.result) (four_of c.args.worker.now.conns) _ role.Core c.swapped-own.ensures conn c.requires.phase;
      waits = c.requires.waits;
      short = c.requires.short;
      room = c.requires.room;
    }

pub returns-clause-asks : goal.returns-clause-asks
returns-clause-asks g c =
    let len = c.answer_call-own.result.1 in
    let room = c.answer_call-own.new.reply in
    let part : length c.tell_outward.new.bytes ≡ len = c.tell_outward.auto.bytes ∙ length-take-le len room c.answer_call-own.ensures.within in
    asked-on-bus (passes_shown c.args.passes) c.args.bus (passes_shown c.swapped-own.result) c.swapped-own.ensures c.answer_call-own.result.0 (passes_shown c.swapped.result) c.swapped.ensures
    g.B.Bus (firsts_shown c.args.worker.now.buses.now) _ _ (g.C.Clock.told c.answer_call-own.new.clock) (four_of c.args.worker.now.conns) _ c.args.request.now.xid (call_shown c.args.request.now.call.now) _ _ (take len room) _
    c.gate.ensures.first (conn-at c.args.worker.now.conns c.args.bus c.requires.bus) c.answer_call-own.ensures.answers
    (take_at c.tell_outward.new.bytes (drop len room) len part ∙ c.tell_outward.ensures)

pub returns-clause-phase : goal.returns-clause-phase
returns-clause-phase g c =
    last-idle (passes_shown c.args.passes) c.args.bus (passes_shown c.swapped-own.result) c.swapped-own.ensures c.answer_call-own.result.0 (passes_shown c.swapped.result) c.swapped.ensures
    (four_of c.args.worker.now.conns) _ role.Core (conn-at c.args.worker.now.conns c.args.bus c.requires.bus) c.answer_call-own.ensures.phase
