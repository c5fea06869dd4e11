pub mod Shown
pub mod Inside
pub use Rattle.vx_rules.specs.Table
