pub mod Notes
pub mod Modified
