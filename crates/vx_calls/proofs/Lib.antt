pub mod TargetLemmas
pub mod Laws
