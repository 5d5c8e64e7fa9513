pub mod Left
pub mod Judged
