pub mod ErrorCode
pub mod Target
pub mod Call
pub mod Reply
