pub mod Output
pub mod Text
pub mod Writing
pub mod Numbered
pub mod Reading
pub mod Laws
