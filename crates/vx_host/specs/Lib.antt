pub use Rattle.vx_io.specs.Accepts
pub use Rattle.vx_io.specs.Faults
pub use Rattle.vx_io.specs.Outs
pub use Rattle.vx_io.specs.Rung
pub use Rattle.vx_io.specs.SocketState
