mod Keys
mod Texts
pub mod Rows
