use Rattle.std.proofs.Common.{refl, subst}
use Rattle.std.specs.Arc.{arc_value}
use Rattle.std.specs.Option.{option_copied}
use Rattle.vx_gate.specs.Gates.{first_of}
use Rattle.vx_session.specs.Dialing.{dial_shown}
use Rattle.vx_session.specs.Origin.{origin}
use Rattle.vx_session.specs.Progress.{Clocked}
use Rattle.vx_desks.specs.RuledLinking.{LabLinkDid}
use Rattle.vx_workers.proofs.access.GateAccessLinkAccess.core_link.Goals as goal

pub returns : goal.returns
returns g c =
    let did = c.lab_link-pass in
    let shared = c.args.self.shared in
    let names = c.deref-book.result.now.names in
    let at_gate = subst (λ gate. LabLinkDid names (option_copied c.as_ref.result) (origin g.B.Bus (first_of gate)) g.L.Link (Clocked g.C.Clock.tells c.args.kit.now.clock did.new.kit.clock) (g.C.Clock.told did.new.kit.clock)
    (record { pass = c.args.self.pass; link = c.args.link; dial = dial_shown g.D.Dial c.args.kit.now.dial; note = g.N.Note.took c.args.note.now }) did.result.1.how did.result.2
    (record { pass = did.result.0; link = did.result.1.link; dial = dial_shown g.D.Dial did.new.kit.dial; note = g.N.Note.took did.new.note })) c.deref.ensures did.ensures.did in
    let by_rules = subst (λ rules. LabLinkDid names rules (origin g.B.Bus (first_of (arc_value shared.gate))) g.L.Link (Clocked g.C.Clock.tells c.args.kit.now.clock did.new.kit.clock) (g.C.Clock.told did.new.kit.clock)
    (record { pass = c.args.self.pass; link = c.args.link; dial = dial_shown g.D.Dial c.args.kit.now.dial; note = g.N.Note.took c.args.note.now }) did.result.1.how did.result.2
    (record { pass = did.result.0; link = did.result.1.link; dial = dial_shown g.D.Dial did.new.kit.dial; note = g.N.Note.took did.new.note })) c.as_ref.ensures.value at_gate in (
      (
        did.result.2,
        subst (λ book. LabLinkDid book.names book.policy (origin g.B.Bus (first_of (arc_value shared.gate))) g.L.Link (Clocked g.C.Clock.tells c.args.kit.now.clock did.new.kit.clock) (g.C.Clock.told did.new.kit.clock)
            (record { pass = c.args.self.pass; link = c.args.link; dial = dial_shown g.D.Dial c.args.kit.now.dial; note = g.N.Note.took c.args.note.now }) did.result.1.how did.result.2
            (record { pass = did.result.0; link = did.result.1.link; dial = dial_shown g.D.Dial did.new.kit.dial; note = g.N.Note.took did.new.note })) c.deref-book.ensures by_rules,
      ),
      refl,
      refl,
    )
