pub mod Served
mod Arriving
mod Printed
