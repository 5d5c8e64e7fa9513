pub mod Printed
pub mod Read
