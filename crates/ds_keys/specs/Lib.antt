pub mod Moves
pub mod KeyStep
pub mod KeyRuns
pub mod Touched
pub mod Laws
pub mod Shape
pub mod Lines
pub mod Kept
