pub mod Laws
pub mod Fronts
pub mod Nexts
pub mod Places
pub mod Runs
