pub mod Shown
pub mod Told
pub mod Inside
pub use Rattle.vx_rules.specs.SrqState
