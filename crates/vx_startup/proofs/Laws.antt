-- Laws that the crates above cite, each in the file of this folder that has its proof.
pub mod Answered
pub mod Done
pub mod Written
