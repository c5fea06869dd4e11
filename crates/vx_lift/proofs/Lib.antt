pub mod Laws
mod Going
mod Parted
