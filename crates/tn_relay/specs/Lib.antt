pub mod Lines
pub mod Relayed
