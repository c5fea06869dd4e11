-- Laws of a turn's lists of transfers that crates above cite, proved.
pub mod Tallies
pub mod Sizes
pub mod Fares
-- the most bytes that the plan of a job puts, and the most that it gets
pub use Rattle.vx_ctrl.proofs.Laws.Sizes.{most_puts, most_gets}
-- how many transfers of each kind a list that keeps to its plan has, and how many bytes it got
pub use Rattle.vx_ctrl.proofs.Laws.Fares.{fares, length-gots, length-bytes_got, moved-got}
