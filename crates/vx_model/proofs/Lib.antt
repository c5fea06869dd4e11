pub mod Orderly
pub mod Folding
pub mod Standing
pub mod Answering
