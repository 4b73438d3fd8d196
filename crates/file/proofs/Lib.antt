pub mod Good
pub mod First
pub mod Joins
pub mod Splits
pub mod Cases
pub mod Filed
pub mod Asked
mod Planned
mod Promised
