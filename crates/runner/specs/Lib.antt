pub mod Served
pub mod Steps
pub mod Indexed
