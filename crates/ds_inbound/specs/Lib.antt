pub mod Answer
pub mod Inbound
pub mod Characters
pub mod Reading
pub mod Sending
pub mod Laws
pub mod Refused
