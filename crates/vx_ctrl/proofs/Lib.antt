pub mod Laws
pub mod Answered
pub mod Walking
pub mod Rooms
pub mod Bursts
pub mod Runs
pub mod Going
