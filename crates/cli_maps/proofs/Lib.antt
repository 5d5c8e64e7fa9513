mod Plain
pub mod Logged
mod Folds
mod Read
mod AskedLaws
mod ScreenLaws
mod DeclaredLaws
mod LayoutLaws
mod KeptLaws
mod VerdictLaws
