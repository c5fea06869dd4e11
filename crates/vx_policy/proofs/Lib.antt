mod Cuts
mod Spelled
mod Readings
mod Judged
mod Behind
mod Replies
mod Named
