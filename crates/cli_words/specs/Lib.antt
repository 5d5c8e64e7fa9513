pub mod Asked
pub mod Many
pub mod Script
pub mod Tap
pub mod Values
