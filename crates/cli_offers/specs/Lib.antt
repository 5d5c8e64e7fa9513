pub mod Ways
pub mod Judged
pub mod Sources
pub mod Held
pub mod Judging
pub mod Prepare
pub mod Outcome
pub mod Any
