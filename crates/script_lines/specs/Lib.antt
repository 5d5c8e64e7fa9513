pub mod Bytes
pub mod Quoted
pub mod Arguments
pub mod Actions
pub mod TakenSeen
pub mod ArgumentsSeen
pub mod FoundSeen
