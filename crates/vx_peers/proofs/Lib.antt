pub mod Laws
mod Rounds
mod Told
