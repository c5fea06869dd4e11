-- What serving one peer of a door comes to.
use Rattle.std.proofs.Common.{◌||◌, ◌≡◌, ◌≢◌, ◌≤◌, ◌<◌, ◌+◌, ◌⊎◌, inl, inr, ℕ, Bool, true, false, List, [], ◌∷◌, ◌++◌, Option, Some, None, refl, sym, ap, ◌∙◌, subst, arith}
use Rattle.std.specs.Prelude.{not}
use Rattle.std.proofs.lemmas.Bool.{false≢true}
use Rattle.std.proofs.lemmas.List.Concat.{flat_map-cons}
use Rattle.vx_io_traits.specs.Faults.{Rose}
use Rattle.vx_io_traits.specs.declared.links.Link.{Ghosts}
use Rattle.vx_io_traits.proofs.Laws.{rose_earlier}
use Rattle.vx_peers.specs.Serving.{is_cut}
use Rattle.vx_peers.proofs.Laws.{ended-spent}
use Rattle.vx_calls.specs.declared.calls.Role.{Role}
use Rattle.vx_calls.specs.declared.calls.Role.TheVariants as role
use Rattle.vx_calls.specs.declared.limits.TheConstants.{CONNECTION_LAST}
use Rattle.vx_session.specs.Origin.{Origin}
use Rattle.vx_gate.specs.PassView.{PassView, GateId}
use Rattle.vx_group.specs.Groups.{Group}
use Rattle.vx_stream.specs.declared.ends.End.TheVariants as stream
use Rattle.vx_session.specs.Placing.{Placed, Makes}
use Rattle.vx_session.specs.Progress.{Clocked, placed}
use Rattle.vx_session.specs.Serving.{Item}
use Rattle.vx_state.specs.declared.tables.Connect.TheVariants as connect
use Rattle.vx_exchange.specs.Meaning.{Meaning, Asks, meaning}
use Rattle.vx_policy.specs.declared.made.MadeLink.{MadeLink}
use Rattle.vx_policy.specs.declared.rules.Rule.{Rule}
use Rattle.vx_desks.specs.declared.ruled_sessions.GuardEnd.TheVariants as guard
use Rattle.vx_desks.specs.declared.ruled_links.Guarded.{Guarded}
use Rattle.vx_desks.specs.declared.ruled_links.Guarded.TheVariants as guarded
use Rattle.vx_desks.specs.Judged.{Judged, IsDenied, IsGuarded, Guards, served}
use Rattle.vx_desks.specs.RuledLinking.{GuardLinkDid}
use Rattle.vx_desks.specs.Wholes.{GuardHolding}
use Rattle.vx_session.specs.Counting.{events_by, IsSteady, ComesAndGoes, IsSessionClear}
use Rattle.vx_session.proofs.Laws.{clear-first, clear-on, events_by-append, append-steady, none-steady, served-steady, came-and-went, none-came, never-full}
use Rattle.vx_guard.specs.Peers.{CanServe, IsGuardReady, GuardHas, GuardShows, GuardsPeer, holding, is_note_fault, is_own, is_whole}

-- the count of the note's faults rose where the note failed, and didn't fall
abbrev pub Notes : Bool → (before after : ℕ) → Type 0
Notes true before after = Rose before after
Notes false before after = before ≤ after

-- a call that a rule denied adds no group
denied-steady : (made made' : List MadeLink) (m : Meaning) (item : Item) → IsDenied made m item made' → IsSteady (events_by item.placed)
denied-steady made made' (Asks xid call) item is = rw is.0 none-steady
denied-steady made made' _ item is = absurd is

-- no connection comes up or goes by a message, whatever the rules say of it
guarded-steady : {B : Type 0} (g : Origin B) (number conn : ℕ) (made made' : List MadeLink) (m : Meaning) (denial : Option ℕ) (item : Item) → IsGuarded g number conn made m denial item made'
    → IsSteady (events_by item.placed)
guarded-steady g number conn made made' m None item is = served-steady g number conn m item.placed item.calls item.answered.reply is.0
guarded-steady g number conn made made' m (Some rule) item is = denied-steady made made' m item is

-- nor by those of a session
items-steady : {B : Type 0} (means : List ℕ → Role → Meaning) (g : Origin B) (number conn : ℕ) (rules : List Rule) (peer : ℕ) (made : List MadeLink) (items : List Judged) (made' : List MadeLink)
    → Guards means g number conn rules peer made items made' → IsSteady (events_by (placed (served items)))
items-steady means g number conn rules peer made [] made' all = none-steady
items-steady means g number conn rules peer made (j ∷ later) made' all =
    let one = guarded-steady g number conn made all.1 (means j.served.answered.message role.Core) j.denial j.served all.2 in
    subst IsSteady (sym (ap events_by (flat_map-cons (λ (k : Item). k.placed) j.served (served later)) ∙ events_by-append j.served.placed (placed (served later))))
    (append-steady (events_by j.served.placed) (events_by (placed (served later))) one (items-steady means g number conn rules peer all.1 later made' all.3))

-- a pass that goes on by groups of its own is of the same gate, with the same number and as many parts
can-on : (gate : GateId) (told : ℕ) (pass pass' : PassView Group) (ps : List Placed) → Makes told pass ps pass' → CanServe gate pass → CanServe gate pass'
can-on gate told pass pass' ps makes can = record { gate_is = makes.gate ∙ can.gate_is; number = makes.number ∙ can.number; parts = makes.parts ∙ can.parts }

module _ {B L : Type 0} (means : List ℕ → Role → Meaning) (g : Origin B) (ways : Ghosts L) (clocked : List Placed → Type 0) (told : ℕ) (rules : List Rule) where
  -- a peer that was cut short was so by a fault of its link
  pub link-cut : (before : GuardHolding L) (how : Guarded) (after : GuardHolding L)
      → GuardLinkDid means g ways clocked told rules before how after
      → is_cut (is_own how) (is_whole how) (ways.left before.link) (ways.left after.link) ≡ true
      → Rose (ways.receive_faults before.link) (ways.receive_faults after.link) ⊎ Rose (ways.send_faults before.link) (ways.send_faults after.link)
  link-cut before (guarded.Ended (guard.Ended stream.Closed)) after d cut =
      absurd (false≢true (sym (ap not (ended-spent (ways.left before.link) (ways.left after.link) (d.did.front ++ d.did.behind) d.did.goes.left d.did.ended.0.5)) ∙ cut))
  link-cut before (guarded.Ended (guard.Ended (stream.CutShort n))) after d cut =
      absurd (false≢true (sym (ap not (ended-spent (ways.left before.link) (ways.left after.link) (d.did.front ++ d.did.behind) d.did.goes.left d.did.ended.0.6)) ∙ cut))
  link-cut before (guarded.Ended (guard.Ended stream.ReadFault)) after d cut = inl d.did.ended.0.4
  link-cut before (guarded.Ended (guard.Ended stream.WriteFault)) after d cut = inr d.did.ended.0.1.rose
  link-cut before _ after d cut = absurd (false≢true cut)

  -- a link that is as it was has its counts
  as-it-was : (link link' : L) → link' ≡ link → (ways.receive_faults link ≤ ways.receive_faults link') × (ways.send_faults link ≤ ways.send_faults link')
  as-it-was link link' same = rw same (omega arith, omega arith)

  -- the counts of a link don't fall
  pub link-counts : (before : GuardHolding L) (how : Guarded) (after : GuardHolding L)
      → GuardLinkDid means g ways clocked told rules before how after
      → (ways.receive_faults before.link ≤ ways.receive_faults after.link) × (ways.send_faults before.link ≤ ways.send_faults after.link)
  link-counts before (guarded.Ended how) after d = (d.did.goes.receives, d.did.goes.sends)
  link-counts before guarded.Full after d = as-it-was before.link after.link d.1
  link-counts before guarded.NoMemory after d = as-it-was before.link after.link d.1

  -- the count of the note's faults rises where it failed, and doesn't fall
  pub link-notes : (before : GuardHolding L) (how : Guarded) (after : GuardHolding L)
      → GuardLinkDid means g ways clocked told rules before how after
      → Notes (is_note_fault how) before.note.faults after.note.faults
  link-notes before (guarded.Ended (guard.Ended how)) after d = d.did.ended.2
  link-notes before (guarded.Ended guard.NoteFault) after d =
      rose_earlier before.note.faults d.did.ended.between.faults after.note.faults d.did.ended.counted d.did.ended.stops.rose
  link-notes before guarded.Full after d = rw d.4 (omega arith)
  link-notes before guarded.NoMemory after d = rw d.4 (omega arith)

  -- a guard can serve another by the pass that it has then
  pub link-can : (gate : GateId) (before : GuardHolding L) (how : Guarded) (after : GuardHolding L)
      → CanServe gate before.pass → GuardLinkDid means g ways clocked told rules before how after → CanServe gate after.pass
  link-can gate before (guarded.Ended how) after can d =
      can-on gate told d.up after.pass (placed (served d.did.items) ++ d.did.last ∷ []) d.did.makes (can-on gate 0 before.pass d.up (d.joins.placed ∷ []) d.joins.turns.makes can)
  link-can gate before guarded.Full after can d = can-on gate 0 before.pass after.pass (d.0.placed ∷ []) d.0.turns.makes can
  link-can gate before guarded.NoMemory after can d = can-on gate 0 before.pass after.pass (d.0.placed ∷ []) d.0.turns.makes can

  -- Whatever became of the link: among the groups that its pass made as many connections came up as went down, and at most one.
  link-connects : (before : GuardHolding L) (how : Guarded) (after : GuardHolding L) → GuardLinkDid means g ways clocked told rules before how after → ComesAndGoes before.pass after.pass
  link-connects before (guarded.Ended how) after had =
      let did = had.did in
      came-and-went g told had.conn role.Core before.pass had.up after.pass (placed (served did.items)) did.last had.joins did.makes
      (items-steady means g had.up.number had.conn rules had.peer [] did.items did.made did.each) did.down
  link-connects before guarded.Full after had = none-came g role.Core connect.Full before.pass after.pass had.0
  link-connects before guarded.NoMemory after had = none-came g role.Core connect.NoMemory before.pass after.pass had.0

  -- and behind one more than so many peers each of its connections went again
  pub link-ready : (gate : GateId) (count : ℕ) (before : GuardHolding L) (how : Guarded) (after : GuardHolding L)
      → CanServe gate before.pass → IsSessionClear count before.pass → GuardLinkDid means g ways clocked told rules before how after → IsGuardReady gate (count + 1) (Some after.pass)
  link-ready gate count before how after can clear d = record {
    pass = after.pass;
    has = refl;
    can = link-can gate before how after can d;
    clear = clear-on count before.pass after.pass clear (link-connects before how after d);
  }

  -- its connection wasn't refused for want of room
  pub link-room : (count : ℕ) (before : GuardHolding L) (how : Guarded) (after : GuardHolding L)
      → IsSessionClear count before.pass → count < CONNECTION_LAST → GuardLinkDid means g ways clocked told rules before how after → how ≢ guarded.Full
  link-room count before guarded.Full after clear low d is = never-full g count before.pass after.pass role.Core clear low d.0
  link-room count before (guarded.Ended how) after clear low d is = cc
  link-room count before guarded.NoMemory after clear low d is = cc

-- one that begins is ready
pub ready-first : (gate : GateId) (pass : PassView Group) → CanServe gate pass → pass.seen ≡ [] → pass.own ≡ [] → IsGuardReady gate 0 (Some pass)
ready-first gate pass can seen own = record { pass = pass; has = refl; can = can; clear = clear-first pass can.parts seen own }

-- how the note's faults rose so far goes on by each peer
pub notes-on : {B C N : Type 0} (n : GuardShows B C N) (rules : List Rule) (first s s' : GuardHas C) (door door' : N) (how : Guarded) → Notes s.failed first.note.faults s.note.faults
    → GuardsPeer n rules s door how s' door' → Notes s'.failed first.note.faults s'.note.faults
notes-on n rules first s s' door door' how before did =
    rw did.failed (by s.failed (is_note_fault how) before (link-notes meaning n.bus n.link (Clocked n.clock s.clock s'.clock) s'.told rules (holding s door) how (holding s' door') did.did))
  where
    by : (failed fails : Bool) → Notes failed first.note.faults s.note.faults → Notes fails s.note.faults s'.note.faults → Notes (failed || fails) first.note.faults s'.note.faults
    by true true before one = omega arith
    by true false before one = omega arith
    by false true before one = omega arith
    by false false before one = omega arith
