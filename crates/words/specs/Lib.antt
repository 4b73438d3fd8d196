pub mod Parts
pub mod Runs
pub mod Pass
pub mod Stamps
