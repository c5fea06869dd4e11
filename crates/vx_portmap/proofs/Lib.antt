pub mod Written
pub mod Answered
pub mod Packed
pub mod Looked
pub mod Spent
