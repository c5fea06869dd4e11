-- Laws of a kernel that crates above cite, proved.
pub mod Counting
pub mod Polled
-- numbers that differ still do where some are left out
pub use Rattle.vx_core.proofs.Laws.Counting.{distinct-filter}
-- the call that is polled, its turn, the own address of the bus that it is measured on, and how many bytes it brings
pub use Rattle.vx_core.proofs.Laws.Polled.{the_pending, running-own, own-is, busy-is, few-bytes}
