pub mod Laws
pub mod Tabled
pub mod Attached
pub mod Setting
