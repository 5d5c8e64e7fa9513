pub mod State
pub mod Header
pub mod Calls
