mod Counts
mod Windows
mod Histories
