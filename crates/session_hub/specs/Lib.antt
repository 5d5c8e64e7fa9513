pub mod Seats
pub mod Hubs
pub mod Alone
