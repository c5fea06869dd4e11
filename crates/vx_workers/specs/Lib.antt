pub mod Starting
pub mod Logged
pub mod Working
pub mod ByLab
pub use Rattle.vx_io_traits.specs.Faults
pub use Rattle.vx_gate.specs.Gates
pub use Rattle.vx_startup.specs.Meant
pub use Rattle.vx_startup.specs.Running
