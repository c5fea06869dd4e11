pub mod Fragments
pub mod Records
pub mod Buffer
pub mod Runs
pub mod Ends
pub mod Spelled
