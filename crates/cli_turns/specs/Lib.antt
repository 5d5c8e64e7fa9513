pub mod Binds
pub mod Drafts
pub mod Part
