pub mod Hosting
pub mod Writing
pub mod Words
pub mod Printed
pub mod Alone
pub mod Hosts
pub mod Screens
pub mod Limits
