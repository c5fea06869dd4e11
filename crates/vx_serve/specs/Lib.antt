pub mod Hosting
pub use Rattle.vx_sim.specs.Means
pub use Rattle.vx_startup.specs.Meant
pub use Rattle.vx_startup.specs.Outcome
pub use Rattle.vx_startup.specs.Running
pub use Rattle.vx_startup.specs.Spares
pub use Rattle.vx_sim.specs.Occupants
