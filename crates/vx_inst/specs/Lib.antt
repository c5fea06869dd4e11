pub mod View
pub mod Laws
pub mod Marks
pub mod Reply
pub mod Shared
pub mod Behavior
pub mod Runs
pub use Rattle.vx_488.specs.Heard
