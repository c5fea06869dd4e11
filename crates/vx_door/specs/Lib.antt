pub mod Meeting
pub mod Peering
pub mod Shown
pub mod Opening
pub mod Going
pub use Rattle.vx_io_traits.specs.Faults
pub use Rattle.vx_io_traits.specs.Rung
pub use Rattle.vx_io_traits.specs.Stands
