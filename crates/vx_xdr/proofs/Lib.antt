pub mod Laws
pub mod Overwrites
