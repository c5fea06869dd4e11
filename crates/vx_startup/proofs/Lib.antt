pub mod Laws
pub mod Few
pub mod Values
pub mod Verdicts
pub mod Causes
pub mod Early
