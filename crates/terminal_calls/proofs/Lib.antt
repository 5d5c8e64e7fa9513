pub mod Crossing
mod Laid
pub mod Handles
