pub mod Tallies
pub mod Places
pub mod Waiting
pub mod Serving
pub mod Arriving
