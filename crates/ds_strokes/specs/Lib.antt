pub mod Room
pub mod StrokeStep
pub mod StrokeRuns
pub mod Touched
pub mod Laws
pub mod Lines
pub mod Kept
