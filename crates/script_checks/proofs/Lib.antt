pub mod Lists
pub mod Geometry
pub mod Promised
pub mod BestLaws
pub mod Printed
pub mod Whole
pub mod FaultTexts
pub mod SaidWhole
