use Rattle.std.proofs.Common.{ℕ, sym, subst}
use Rattle.vx_plan.specs.declared.tasks.Task.{Task}
use Rattle.vx_plan.specs.declared.tasks.Task.TheVariants.{Write, Read}
use Rattle.vx_plan.specs.Runs.{IsDataLeft}
use Rattle.vx_plan.proofs.Runs.{data-write, data-read}
use Rattle.vx_plan.proofs.tasks.data_left.Goals as goal

pub returns-in-Write : goal.returns-in-Write
returns-in-Write c =
    let place = c.args.place.now in
    subst (λ (k : Task). IsDataLeft k place c.puts_left.result) (sym c.in-Write.is)
    (subst (λ (n : ℕ). IsDataLeft (Write c.in-Write.t c.in-Write.len c.in-Write.end) place n) (sym c.puts_left.ensures)
    (data-write c.in-Write.t c.in-Write.len c.in-Write.end place c.next_of_write.result c.next_of_write.ensures))

pub returns-in-Read : goal.returns-in-Read
returns-in-Read c =
    let place = c.args.place.now in
    subst (λ (k : Task). IsDataLeft k place c.gets_left.result) (sym c.in-Read.is)
    (subst (λ (n : ℕ). IsDataLeft (Read c.in-Read.t c.in-Read.max c.in-Read.stop) place n) (sym c.gets_left.ensures)
    (data-read c.in-Read.t c.in-Read.max c.in-Read.stop place c.next_of_read.result c.next_of_read.ensures))
