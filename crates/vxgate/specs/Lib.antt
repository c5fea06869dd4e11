pub mod Models
pub use Rattle.vx_inst.specs.View
pub use Rattle.vx_inst.specs.Behavior
pub use Rattle.vx_rack.specs.Askers
pub use Rattle.vx_rack.specs.Echoes
pub use Rattle.vx_rack.specs.Meters
pub use Rattle.vx_rack.specs.Slows
