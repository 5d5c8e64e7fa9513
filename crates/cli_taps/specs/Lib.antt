pub mod Text
pub mod Listening
pub mod Taps
pub mod Rounds
