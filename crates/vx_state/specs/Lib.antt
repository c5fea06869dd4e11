pub mod Held
pub mod Rows
pub mod Inside
pub mod Shown
