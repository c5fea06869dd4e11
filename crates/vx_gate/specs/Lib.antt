pub mod History
pub mod PassView
pub mod Turning
pub mod Rule
pub mod Steps
pub mod Seats
pub mod Places
pub mod Gates
