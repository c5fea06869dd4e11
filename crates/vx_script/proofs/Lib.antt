pub mod Choices
pub mod Cuts
pub mod Numbers
pub mod Parts
pub mod Found
pub mod Again
pub mod Tabled
pub mod Moments
