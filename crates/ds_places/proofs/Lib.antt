pub mod ListLaws
pub mod SearchLaws
pub mod LookLaws
pub mod EditLaws
pub mod BlockLaws
pub mod PageLaws
