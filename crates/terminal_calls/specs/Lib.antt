pub mod Screens
pub mod Numbers
pub mod Items
pub mod Left
pub mod Held
