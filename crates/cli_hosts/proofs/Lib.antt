mod Alone
pub mod Printed
pub mod Told
