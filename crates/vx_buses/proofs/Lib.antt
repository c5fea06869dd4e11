pub mod Hosted
pub mod Furnished
pub mod Ran
pub mod Rooms
