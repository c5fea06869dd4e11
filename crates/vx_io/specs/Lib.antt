pub mod SocketState
pub mod Looking
pub use Rattle.vx_io_traits.specs.Accepts
pub use Rattle.vx_io_traits.specs.Faults
pub use Rattle.vx_io_traits.specs.Outs
pub use Rattle.vx_io_traits.specs.Rung
pub use Rattle.vx_door.specs.Meeting
