-- Laws that the crates above cite, each in the file of this folder that has its proof.
pub mod Slices
pub mod Options
pub mod Lists
pub mod Hexadecimal
pub mod Filters
pub mod Decimal
pub mod Conditions
