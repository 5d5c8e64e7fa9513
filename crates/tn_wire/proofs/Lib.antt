pub mod Bytes
pub mod Clauses
pub mod Front
pub mod Parts
pub mod Reading
pub mod Runs
pub mod Steps
pub mod Streams
