mod Parts
mod Codes
mod KeyLines
mod Read
mod PlainRuns
mod Back
