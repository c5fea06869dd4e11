pub mod Playing
pub mod WholePlay
pub mod Laws
pub mod Completing
pub mod RunEnding
mod Spreading
mod Timing
mod Moving
mod Running
mod Following
mod Lifts
