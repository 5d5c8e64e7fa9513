pub mod HearLaws
pub mod KnownDigits
pub mod Spaced
pub mod Texts
pub mod WalkLaws
