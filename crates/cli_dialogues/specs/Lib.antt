pub mod Applications
pub mod Answers
pub mod Dialogues
pub mod Lasts
pub mod Lines
pub mod Alone
pub mod Limits
