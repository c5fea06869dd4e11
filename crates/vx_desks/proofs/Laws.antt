-- Laws of desks, proved: what the crates above cite, each from the file of this folder that has its proof.
pub mod Fours
pub mod Joined
