pub mod Lengths
pub mod Turns
pub mod Taken
pub mod Same
pub mod Right
