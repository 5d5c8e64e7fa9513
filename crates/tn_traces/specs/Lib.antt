pub mod Held
pub mod Line
pub mod Negotiated
pub mod Record
