pub mod Lifted
pub mod LiftedLines
pub mod LineLifted
pub mod Lifting
pub use Rattle.vx_text.specs.TextLines
pub use Rattle.vx_script.specs.Grammar
