pub mod Laws
pub mod HeaderLemmas
pub mod PutLemmas
pub mod InverseLemmas
