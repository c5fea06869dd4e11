use Rattle.std.proofs.Common.{arith}
use Rattle.vx_ctrl.proofs.Going.{reached, asks-left, is-reached, own-in, made-few, smaller, preserved, goes-stops, wire-stops, got-stops, holds-stops, begins-again, goes-full, holds-full, begins-full}
use Rattle.vx_ctrl.proofs.turn.Turn.go.Goals as goal

pub advance-requires-clause-own : goal.advance-requires-clause-own
advance-requires-clause-own g c =
    own-in g.B.Bus.means g.B.Bus.through _ _ _ _ _ _ _ _ c.requires.plain c.requires.short c.requires.begun c.loop-left.invariant c.loop-left.auto.room c.requires.own

pub advance-requires-clause-reached : goal.advance-requires-clause-reached
advance-requires-clause-reached g c =
    reached g.B.Bus.means g.B.Bus.through _ _ _ _ _ _ _ _ c.requires.plain c.requires.short c.requires.begun c.loop-left.invariant c.loop-left.auto.room

pub advance-requires-clause-asks : goal.advance-requires-clause-asks
advance-requires-clause-asks g c =
    asks-left g.B.Bus.means g.B.Bus.through _ _ _ _ _ _ _ _ c.requires.plain c.requires.short c.requires.begun c.loop-left.invariant c.loop-left.auto.room

pub overflow_sub-left : goal.overflow_sub-left
overflow_sub-left g c =
    made-few g.B.Bus.means g.B.Bus.through _ _ _ _ _ _ _ _ c.requires.plain c.requires.short c.requires.begun c.loop-left.invariant c.loop-left.auto.room
    c.advance.new.self c.advance.new.room c.in-Made.n c.advance.new.bus c.in-Made.ensures c.run_goes_on.ensures c.wire_appends.ensures c.requires.room

pub loop-left-smaller : goal.loop-left-smaller
loop-left-smaller g c =
    smaller g.B.Bus.means g.B.Bus.through _ _ _ _ _ _ _ _ c.requires.plain c.requires.short c.requires.begun c.loop-left.invariant c.loop-left.auto.room
    c.advance.new.self c.advance.new.room c.in-Made.n c.advance.new.bus c.in-Made.ensures c.run_goes_on.ensures c.wire_appends.ensures c.requires.room

pub loop-left-preserved : goal.loop-left-preserved
loop-left-preserved g c =
    preserved g.B.Bus.means g.B.Bus.through _ _ _ _ _ _ _ _ c.requires.plain c.requires.short c.requires.begun c.loop-left.invariant c.loop-left.auto.room
    c.advance.new.self c.advance.new.room c.in-Made.n c.advance.new.bus c.in-Made.ensures c.run_goes_on.ensures c.wire_appends.ensures c.requires.room

pub returns-in-Stopped-clause-goes : goal.returns-in-Stopped-clause-goes
returns-in-Stopped-clause-goes g c =
    goes-stops g.B.Bus.means g.B.Bus.through _ _ _ _ _ _ _ _ c.requires.plain c.requires.short c.requires.begun c.loop-left.invariant c.loop-left.auto.room
    c.advance.new.self c.advance.new.room c.in-Stopped.went c.advance.new.bus c.in-Stopped.ensures c.run_goes_on.ensures c.wire_appends.ensures c.requires.room

pub returns-in-Stopped-clause-goes_on : goal.returns-in-Stopped-clause-goes_on
returns-in-Stopped-clause-goes_on g c =
    begins-again g.B.Bus.means g.B.Bus.through _ _ _ _ _ _ _ _ c.requires.plain c.requires.short c.requires.begun c.loop-left.invariant c.loop-left.auto.room
    c.advance.new.self c.advance.new.room c.in-Stopped.went c.advance.new.bus c.in-Stopped.ensures c.run_goes_on.ensures c.wire_appends.ensures c.requires.room

pub returns-in-Stopped-clause-wire : goal.returns-in-Stopped-clause-wire
returns-in-Stopped-clause-wire g c =
    wire-stops g.B.Bus.means g.B.Bus.through _ _ _ _ _ _ _ _ c.requires.plain c.requires.short c.requires.begun c.loop-left.invariant c.loop-left.auto.room
    c.advance.new.self c.advance.new.room c.in-Stopped.went c.advance.new.bus c.in-Stopped.ensures c.run_goes_on.ensures c.wire_appends.ensures c.requires.room

pub returns-in-Stopped-clause-got : goal.returns-in-Stopped-clause-got
returns-in-Stopped-clause-got g c =
    got-stops g.B.Bus.means g.B.Bus.through _ _ _ _ _ _ _ _ c.requires.plain c.requires.short c.requires.begun c.loop-left.invariant c.loop-left.auto.room
    c.advance.new.self c.advance.new.room c.in-Stopped.went c.advance.new.bus c.in-Stopped.ensures c.run_goes_on.ensures c.wire_appends.ensures c.requires.room

pub returns-in-Stopped-clause-holds : goal.returns-in-Stopped-clause-holds
returns-in-Stopped-clause-holds g c =
    holds-stops g.B.Bus.means g.B.Bus.through _ _ _ _ _ _ _ _ c.requires.plain c.requires.short c.requires.begun c.loop-left.invariant c.loop-left.auto.room
    c.advance.new.self c.advance.new.room c.in-Stopped.went c.advance.new.bus c.in-Stopped.ensures c.run_goes_on.ensures c.wire_appends.ensures c.requires.room

pub behind_slice-requires-clause-own : goal.behind_slice-requires-clause-own
behind_slice-requires-clause-own g c =
    own-in g.B.Bus.means g.B.Bus.through _ _ _ _ _ _ _ _ c.requires.plain c.requires.short c.requires.begun c.loop-left.invariant c.loop-left.auto.room c.requires.own

pub behind_slice-requires-clause-reached : goal.behind_slice-requires-clause-reached
behind_slice-requires-clause-reached g c =
    is-reached g.B.Bus.means g.B.Bus.through _ _ _ _ _ _ _ _ c.requires.plain c.requires.short c.requires.begun c.loop-left.invariant c.loop-left.auto.room

pub returns-clause-goes : goal.returns-clause-goes
returns-clause-goes g c =
    goes-full g.B.Bus.means g.B.Bus.through _ _ _ _ _ _ _ _ c.requires.plain c.requires.short c.requires.begun c.loop-left.invariant c.loop-left.auto.room
    (omega (arith, c.loop-left-test)) c.behind_slice.result c.behind_slice.ensures

pub returns-clause-goes_on : goal.returns-clause-goes_on
returns-clause-goes_on g c =
    begins-full g.B.Bus.means g.B.Bus.through _ _ _ _ _ _ _ _ c.requires.plain c.requires.short c.requires.begun c.loop-left.invariant c.loop-left.auto.room c.wire_appends.ensures

pub returns-clause-wire : goal.returns-clause-wire
returns-clause-wire g c = c.loop-left.invariant.wire

pub returns-clause-got : goal.returns-clause-got
returns-clause-got g c = c.loop-left.invariant.stored

pub returns-clause-holds : goal.returns-clause-holds
returns-clause-holds g c =
    holds-full g.B.Bus.means g.B.Bus.through _ _ _ _ _ _ _ _ c.requires.plain c.requires.short c.requires.begun c.loop-left.invariant c.loop-left.auto.room
