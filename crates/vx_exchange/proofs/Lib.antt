pub mod Laws
pub mod ByProcedure
pub mod Coming
pub mod Recorded
pub mod Saying
