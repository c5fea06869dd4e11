pub mod Askers
pub mod Echoes
pub mod Meters
pub mod Slows
pub use Rattle.vx_inst.specs.Laws
pub use Rattle.vx_inst.specs.Shared
pub use Rattle.vx_inst.specs.View
pub use Rattle.vx_inst.specs.Behavior
