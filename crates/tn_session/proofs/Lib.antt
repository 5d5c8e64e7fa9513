pub mod Walks
pub mod RunLaws
pub mod RunStates
pub mod PieceSteps
pub mod RunSteps
pub mod CoreFaults
pub mod HostSteps
pub mod HostFinish
pub mod HostEnds
pub mod TerminalSteps
mod LuNames
pub mod RunEnds
pub mod TerminalEnds
pub mod TerminalRunning
pub mod OneLog
pub mod Pieces
pub mod Worked
mod KeyStrokes
pub mod WorkLaws
pub mod Heard
pub mod TouchedPairs
pub mod LayoutKept
pub mod OutcomeLaws
pub mod TolerantWork
pub mod TolerantSteps
