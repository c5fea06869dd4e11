pub mod Table
pub mod Spelling
pub mod Rows
pub use Rattle.vx_inst.specs.Laws
pub use Rattle.vx_inst.specs.Shared
pub use Rattle.vx_inst.specs.View
pub use Rattle.vx_inst.specs.Behavior
