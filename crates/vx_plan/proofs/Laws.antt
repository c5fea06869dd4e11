-- Laws of plans and of the jobs that they are of, proved: what the crates above cite, each from the file of this folder that has its proof.
pub mod Parts
pub mod Fitting
pub mod Walks
pub mod Counts
pub mod Turns
-- transfers, what is left of a plan, and jobs
pub use Rattle.vx_plan.proofs.Laws.Parts.{same_bool-is, same_transfer-is, left_after-none, left_after-append, left-on, own-job, reachable-plain, most_bytes-within}
-- what passes the test of a slot fits it
pub use Rattle.vx_plan.proofs.Laws.Fitting.{Fits-from_fits}
-- a list stands as whole, or as a part, exactly where it is
pub use Rattle.vx_plan.proofs.Laws.Walks.{whole-law, part-law}
-- the last byte got, with one transfer more
pub use Rattle.vx_plan.proofs.Laws.Counts.{last_got-behind}
-- how many transfers a turn may make, and that those of another job than a new own address keep the own address
pub use Rattle.vx_plan.proofs.Laws.Turns.{bound-law, own_stays-law}
