mod OnePeer
mod Told
mod Runs
