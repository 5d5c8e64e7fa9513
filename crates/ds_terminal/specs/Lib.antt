pub mod Refused
pub mod Taking
pub mod Terminal
pub mod Runs
pub mod Seen
pub mod Strokes
