pub mod Faults
pub mod Outs
pub mod Stands
pub mod Rung
pub mod Accepts
pub mod Handing
pub mod Reached
