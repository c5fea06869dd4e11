pub mod Laws
pub mod Lists
pub mod Rules
pub mod Keeps
pub mod Outcomes
pub mod Crossing
