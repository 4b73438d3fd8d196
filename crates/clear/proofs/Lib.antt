pub mod Filling
pub mod Promised
pub mod Cleared
