pub mod Words
pub mod Print
pub mod Told
pub mod Says
pub mod Draft
pub mod Laws
