pub mod Laws
pub mod Changes
pub mod Due
pub mod Places
pub mod Held
