pub mod Arrays
pub mod Feeds
pub mod Places
