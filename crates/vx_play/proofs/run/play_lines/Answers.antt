use Rattle.std.proofs.Common.{sym, ◌∙◌, arith}
use Rattle.std.proofs.lemmas.Bool.{eqb-true}
use Rattle.std.proofs.lemmas.List.{nil_from_length}
use Rattle.vx_player.proofs.Laws.Connections.{stands-ready}
use Rattle.vx_play.proofs.WholePlay.{begun, head-cut, goes-on, whole-played, fault-played, cut-played, short-played}
use Rattle.vx_play.proofs.run.play_lines.Goals as goal

pub returns-in-Refused-clause-ended : goal.returns-in-Refused-clause-ended
returns-in-Refused-clause-ended g c =
    fault-played _ _ _ _ _ c.first_line.result.1.now _ _ _ _ _ _ c.loop-rest.invariant.1 c.first_line.ensures.first c.in-Refused.ensures.ended

pub returns-in-SinkFailed-clause-ended : goal.returns-in-SinkFailed-clause-ended
returns-in-SinkFailed-clause-ended g c =
    cut-played _ _ _ _ _ c.first_line.result.1.now _ _ _ _ _ c.loop-rest.invariant.1 c.first_line.ensures.first c.in-SinkFailed.ensures.ended

pub returns-in-NoMemory-clause-ended : goal.returns-in-NoMemory-clause-ended
returns-in-NoMemory-clause-ended g c =
    short-played _ _ _ _ _ c.first_line.result.1.now _ _ _ _ _ c.loop-rest.invariant.1 c.first_line.ensures.first c.in-NoMemory.ensures.ended

pub returns-clause-ended : goal.returns-clause-ended
returns-clause-ended g c = whole-played _ _ _ _ _ _ _ _ c.loop-rest.invariant.1
    (nil_from_length _ (eqb-true _ _ (sym c.is_empty.ensures ∙ c.loop-rest-test.false)))

pub play_line-requires-clause-ready : goal.play_line-requires-clause-ready
play_line-requires-clause-ready g c = stands-ready _ _ c.loop-rest.invariant.1.stands

pub returns-in_default-clause-ended : goal.returns-in_default-clause-ended
returns-in_default-clause-ended g c = head-cut c.args.script.now c.args.player.now.rack _ _ _ c.version_in-version.ensures c.in_default.ensures.put

pub loop-rest-init : goal.loop-rest-init
loop-rest-init g c = (
  c.stepped-line.ensures.within,
  begun c.args.script.now _ c.args.player.now.rack _ _ _ _ _ c.version_in-version.ensures c.stepped-line.ensures.script c.requires.begins c.in-Ok.ensures.put c.in-Ok.ensures.counted,
)

pub loop-rest-preserved : goal.loop-rest-preserved
loop-rest-preserved g c =
    (omega arith, goes-on _ _ _ _ _ c.first_line.result.1.now _ _ _ _ _ _ c.loop-rest.invariant.1 c.first_line.ensures.first c.in-Played.ensures.ended c.in-Played.ensures.counted)
