pub mod Crossing
pub mod Pointers
