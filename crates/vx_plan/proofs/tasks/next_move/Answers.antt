use Rattle.std.proofs.Common.{[], ◌∷◌, false, refl, sym, subst}
use Rattle.vx_488.specs.declared.transfers.Transfer.TheVariants as transfer
use Rattle.vx_plan.specs.declared.tasks.Task.{Task}
use Rattle.vx_plan.specs.declared.tasks.Next.TheVariants as next
use Rattle.vx_plan.specs.Places.{IsNextMove}
use Rattle.vx_plan.specs.Moves.{IsMoveAt}
use Rattle.vx_plan.proofs.Nexts.{next-clear, next-trigger, next-local, next-remote, next-status, next-atn, next-ren, next-own, next-ifc, next-pass, only-at}
use Rattle.vx_plan.proofs.tasks.next_move.Goals as goal

pub returns-in-Write : goal.returns-in-Write
returns-in-Write c =
    subst (λ (k : Task). IsNextMove k c.args.place.now c.next_of_write.result) (sym c.in-Write.is) c.next_of_write.ensures

pub returns-in-Read : goal.returns-in-Read
returns-in-Read c =
    subst (λ (k : Task). IsNextMove k c.args.place.now c.next_of_read.result) (sym c.in-Read.is) c.next_of_read.ensures

pub returns-in-Stb : goal.returns-in-Stb
returns-in-Stb c =
    subst (λ (k : Task). IsNextMove k c.args.place.now c.next_of_poll.result) (sym c.in-Stb.is) c.next_of_poll.ensures

pub returns-in-Commands : goal.returns-in-Commands
returns-in-Commands c =
    subst (λ (k : Task). IsNextMove k c.args.place.now c.next_of_commands.result) (sym c.in-Commands.is) c.next_of_commands.ensures

pub returns-in-Clear : goal.returns-in-Clear
returns-in-Clear c =
    subst (λ (k : Task). IsNextMove k c.args.place.now c.next_of_command.result) (sym c.in-Clear.is)
    (next-clear c.in-Clear.t c.args.place.now c.next_of_command.result (c.next_of_command.ensures (transfer.Cmd 0x14) (λ bytes moved. refl)))

pub returns-in-Trigger : goal.returns-in-Trigger
returns-in-Trigger c =
    subst (λ (k : Task). IsNextMove k c.args.place.now c.next_of_command-in-Trigger.result) (sym c.in-Trigger.is)
    (next-trigger c.in-Trigger.t c.args.place.now c.next_of_command-in-Trigger.result (c.next_of_command-in-Trigger.ensures (transfer.Cmd 0x08) (λ bytes moved. refl)))

pub returns-in-Local : goal.returns-in-Local
returns-in-Local c =
    subst (λ (k : Task). IsNextMove k c.args.place.now c.next_of_command-in-Local.result) (sym c.in-Local.is)
    (next-local c.in-Local.t c.args.place.now c.next_of_command-in-Local.result (c.next_of_command-in-Local.ensures (transfer.Ren false) (λ bytes moved. refl)))

pub returns-in-Remote : goal.returns-in-Remote
returns-in-Remote c =
    subst (λ (k : Task). IsNextMove k c.args.place.now c.next_of_remote.result) (sym c.in-Remote.is) (next-remote c.in-Remote.t c.args.place.now c.next_of_remote.result c.next_of_remote.ensures)

pub returns-in-Pass : goal.returns-in-Pass
returns-in-Pass c =
    subst (λ (k : Task). IsNextMove k c.args.place.now c.next_of_pass.result) (sym c.in-Pass.is) (next-pass c.in-Pass.p c.args.place.now c.next_of_pass.result c.next_of_pass.ensures)

pub returns-in-Status : goal.returns-in-Status
returns-in-Status c =
    subst (λ (k : Task). IsNextMove k c.args.place.now next.Finished) (sym c.in-Status.is) (next-status c.in-Status.selector c.args.place.now)

pub returns-in-Atn : goal.returns-in-Atn
returns-in-Atn c =
    subst (λ (k : Task). IsNextMove k c.args.place.now c.only_move.result) (sym c.in-Atn.is)
    (next-atn c.in-Atn.on c.args.place.now c.only_move.result
    (subst (IsMoveAt (transfer.Atn c.in-Atn.on ∷ []) c.args.place.now.step) (sym c.only_move.ensures)
    (only-at (transfer.Atn c.in-Atn.on) (next.Atn c.in-Atn.on) c.args.place.now.step (λ bytes moved. refl))))

pub returns-in-Ren : goal.returns-in-Ren
returns-in-Ren c =
    subst (λ (k : Task). IsNextMove k c.args.place.now c.only_move-in-Ren.result) (sym c.in-Ren.is)
    (next-ren c.in-Ren.on c.args.place.now c.only_move-in-Ren.result
    (subst (IsMoveAt (transfer.Ren c.in-Ren.on ∷ []) c.args.place.now.step) (sym c.only_move-in-Ren.ensures)
    (only-at (transfer.Ren c.in-Ren.on) (next.Ren c.in-Ren.on) c.args.place.now.step (λ bytes moved. refl))))

pub returns-in-Own : goal.returns-in-Own
returns-in-Own c =
    subst (λ (k : Task). IsNextMove k c.args.place.now c.only_move-in-Own.result) (sym c.in-Own.is)
    (next-own c.in-Own.address c.args.place.now c.only_move-in-Own.result
    (subst (IsMoveAt (transfer.Own c.in-Own.address ∷ []) c.args.place.now.step) (sym c.only_move-in-Own.ensures)
    (only-at (transfer.Own c.in-Own.address) (next.Own c.in-Own.address) c.args.place.now.step (λ bytes moved. refl))))

pub returns-in-Ifc : goal.returns-in-Ifc
returns-in-Ifc c =
    subst (λ (k : Task). IsNextMove k c.args.place.now c.only_move-in-Ifc.result) (sym c.in-Ifc.is)
    (next-ifc c.args.place.now c.only_move-in-Ifc.result
    (subst (IsMoveAt (transfer.Ifc ∷ []) c.args.place.now.step) (sym c.only_move-in-Ifc.ensures) (only-at transfer.Ifc next.Ifc c.args.place.now.step (λ bytes moved. refl))))
