pub mod MemState
pub use Rattle.vx_488.specs.Wire
pub use Rattle.vx_488.specs.Faults
pub use Rattle.vx_488.specs.Means
pub use Rattle.vx_488.specs.Steps
