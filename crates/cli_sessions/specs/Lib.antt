pub mod FaultNumber
pub mod Session
pub mod Printing
pub mod Serve
pub mod Attach
pub mod Tolerant
pub mod Prepare
pub mod Held
