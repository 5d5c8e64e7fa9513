pub mod Sizes
pub mod Reading
pub mod Buffer
pub mod Reason
