pub mod Waits
pub mod Addresses
pub mod AddressSeen
