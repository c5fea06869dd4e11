pub mod Laws
pub mod EntryLaws
pub mod Passing
pub mod Giving
pub mod NewNumbers
pub mod Channels
