pub mod Places
pub mod Nearest
pub mod Pages
