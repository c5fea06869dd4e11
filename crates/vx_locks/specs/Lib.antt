pub mod Places
pub mod Inside
pub use Rattle.vx_calls.specs.Target
pub use Rattle.vx_rules.specs.Locks
