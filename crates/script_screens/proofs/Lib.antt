mod Codes
mod Pushed
mod Sizes
mod Fields
mod Items
pub mod Whole
mod Sayings
mod Connections
mod Rows
