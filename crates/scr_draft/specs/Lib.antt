pub mod Label
pub mod Name
pub mod Drafted
pub mod Text
pub mod Draft
pub mod Opened
pub mod Best
pub mod Laws
