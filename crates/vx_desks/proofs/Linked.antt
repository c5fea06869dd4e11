-- A link's connections, and how they are refused.
use Rattle.std.proofs.Common.{◌≡◌, ◌≤◌, ℕ, List, Result, Ok, Err, refl, sym, subst, arith, []}
use Rattle.vx_io_traits.specs.declared.links.Link.{Ghosts}
use Rattle.vx_calls.specs.declared.calls.Role.TheVariants as role
use Rattle.vx_gate.specs.PassView.{PassView}
use Rattle.vx_desks.specs.declared.routes.counts.Count.{Count}
use Rattle.vx_desks.specs.Four.{Four, at}
use Rattle.vx_group.specs.Groups.{Group}
use Rattle.vx_group.specs.Laws.{ClaimsOfGroupsLaw, OwnedLaw}
use Rattle.vx_desks.specs.Given.{OnceLaw}
use Rattle.vx_state.specs.declared.tables.Connect.{Connect}
use Rattle.vx_state.specs.declared.tables.Connect.TheVariants as connect
use Rattle.vx_session.specs.Linking.{refused_as}
use Rattle.vx_session.specs.Origin.{Origin}
use Rattle.vx_session.specs.Placing.{Placed, IsHistory}
use Rattle.vx_session.specs.Ending.{Upholds}
use Rattle.vx_session.specs.declared.links.Linked.{Linked}
use Rattle.vx_desks.specs.Origins.{Origins, on}
use Rattle.vx_desks.specs.FleetEnding.{GivesOnce}
use Rattle.vx_desks.specs.Joining.{JoinsAll, Undone, UndoneAll, outcome}
use Rattle.vx_desks.specs.FleetLinking.{FleetLinkDid}
use Rattle.vx_session.proofs.Laws.Finishing.{upholds}
use Rattle.vx_desks.proofs.Finishing.{gives-once}
use Rattle.vx_desks.proofs.Laws.Fours.{each-number}

-- a history that a pass has seen behind its connection's end, or behind its refusal
undone-history : {B : Type 0} (g : Origin B) (up pass' : PassView Group) (answer : Result ℕ Connect) → IsHistory g up.seen → Undone g up answer pass' → IsHistory g pass'.seen
undone-history g up pass' (Ok conn) h leaves = leaves.turns.history
undone-history g up pass' (Err why) h same = subst (λ (p : PassView Group). IsHistory g p.seen) (sym same) h

-- so all holds that is claimed of the histories of four
undone-uphold : {B : Type 0} (g : Origins B) → ClaimsOfGroupsLaw → OwnedLaw → (passes up passes' : Four (PassView Group)) (joined : Four (Result ℕ Connect)) → JoinsAll g role.Core passes joined up → UndoneAll g up joined passes'
    → (bus : ℕ) → bus ≤ 3 → Upholds (on bus g) (at bus passes')
undone-uphold g claims owned passes up passes' joined joins undone =
    each-number (λ b. Upholds (on b g) (at b passes'))
    (upholds (on 0 g) claims owned passes'.zero_ (undone-history (on 0 g) up.zero_ passes'.zero_ joined.zero_ joins.zero_.turns.history undone.zero_))
    (upholds (on 1 g) claims owned passes'.one (undone-history (on 1 g) up.one passes'.one joined.one joins.one.turns.history undone.one))
    (upholds (on 2 g) claims owned passes'.two (undone-history (on 2 g) up.two passes'.two joined.two joins.two.turns.history undone.two))
    (upholds (on 3 g) claims owned passes'.three (undone-history (on 3 g) up.three passes'.three joined.three joins.three.turns.history undone.three))

-- the connections were refused, and their link is told so
pub link-refused : {B L : Type 0} (count : Count) (g : Origins B) (ways : Ghosts L) → ClaimsOfGroupsLaw → OwnedLaw → OnceLaw → (clocked : List Placed → Type 0) → clocked [] → (told : ℕ) (passes up passes' : Four (PassView Group)) (link : L)
    (joined : Four (Result ℕ Connect)) (why : Connect) (how : Linked) → how ≡ refused_as why → JoinsAll g role.Core passes joined up → outcome joined ≡ Err why → UndoneAll g up joined passes'
    → FleetLinkDid count g ways clocked told (record { passes = passes; link = link }) how (record { passes = passes'; link = link })
link-refused count g ways claims owned law clocked none told passes up passes' link joined why how how_is joins is undone =
    subst (λ h. FleetLinkDid count g ways clocked told (record { passes = passes; link = link }) h (record { passes = passes'; link = link })) (sym how_is) (by why is) where
      all : (bus : ℕ) → bus ≤ 3 → Upholds (on bus g) (at bus passes')
      all = undone-uphold g claims owned passes up passes' joined joins undone

      once : GivesOnce passes'
      once = gives-once g law passes' (all 0 (omega arith)) (all 1 (omega arith)) (all 2 (omega arith)) (all 3 (omega arith))

      by : (c : Connect) → outcome joined ≡ Err c → FleetLinkDid count g ways clocked told (record { passes = passes; link = link }) (refused_as c) (record { passes = passes'; link = link })
      by connect.Full refused = record { joined = joined; up = up; joins = joins; refused = refused; undone = undone; same = refl; asks = none; upholds = all; once = once }
      by connect.NoMemory refused = record { joined = joined; up = up; joins = joins; refused = refused; undone = undone; same = refl; asks = none; upholds = all; once = once }
