use Rattle.std.proofs.Common.{◌≡◌, refl, subst, inl, inr}
use Rattle.vx_text.specs.Ends.{End, sink_shown}
use Rattle.vx_startup.specs.Outcome.{PutsLast}
use Rattle.vx_startup.specs.declared.status.ServerStatus.{ServerStatus}
use Rattle.vx_startup.specs.declared.status.ServerStatus.TheVariants as status
use Rattle.vx_upstream.specs.declared.open.OpenErr.{OpenErr}
use Rattle.vx_upstream.specs.declared.open.OpenErr.TheVariants as cause
use Rattle.vx_relay.specs.Lines.{unopened_line}
use Rattle.vx_relay.specs.Readying.{EndsByOpening}
use Rattle.vx_relay.proofs.telling.end_unopened.Goals as goal

-- where there was memory the line is all that is due
ended_so : (e : OpenErr) (sink sink' : End) (how : ServerStatus) → (e ≡ cause.NoMemory → ⊥) → PutsLast status.BenchFault (unopened_line e) sink sink' how
    → EndsByOpening e sink sink' how
ended_so cause.NoMemory sink sink' how some puts = absurd (some refl)
ended_so cause.NoReach sink sink' how some puts = puts
ended_so (cause.NoLink e) sink sink' how some puts = puts
ended_so (cause.NoClear e) sink sink' how some puts = puts
ended_so (cause.NoRemoteOff e) sink sink' how some puts = puts
ended_so (cause.NoAddress e) sink sink' how some puts = puts

pub returns-in-NoReach : goal.returns-in-NoReach
returns-in-NoReach g c =
    let sink : End = sink_shown g.K.Sink c.args.sink.now in
    let sink' : End = sink_shown g.K.Sink c.put_last.new.sink in
    ended_so c.args.error sink sink' c.put_last.result
    (λ none. elim c.in-NoReach.is [
      | inl e ↦ absurd (cc (none, e))
      | inr (inl e) ↦ absurd (cc (none, e.1))
      | inr (inr (inl e)) ↦ absurd (cc (none, e.1))
      | inr (inr (inr (inl e))) ↦ absurd (cc (none, e.1))
      | inr (inr (inr (inr e))) ↦ absurd (cc (none, e.1))
    ])
    (subst (λ line. PutsLast status.BenchFault line sink sink' c.put_last.result) c.unopened_line-line.ensures c.put_last.ensures)
