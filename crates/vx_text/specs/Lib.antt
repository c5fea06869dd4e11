pub mod Ends
pub mod Reading
pub mod Writing
pub mod TextLines
pub use Rattle.vx_io_traits.specs.Faults
