pub mod Plain
mod RecordLines
mod Known
pub mod Logged
mod Limited
mod Helped
mod SameFound
mod FieldNames
mod Slashes
mod WrittenLogs
