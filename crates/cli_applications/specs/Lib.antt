pub mod Attention
pub mod Fault
pub mod Results
pub mod Values
pub mod Manifest
pub mod Chains
