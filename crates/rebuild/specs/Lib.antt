pub mod Walkable
