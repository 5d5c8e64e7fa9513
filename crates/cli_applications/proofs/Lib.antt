mod Rows
mod Loop
pub mod Found
