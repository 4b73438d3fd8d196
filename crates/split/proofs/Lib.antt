pub mod Sums
pub mod Sides
pub mod Best
pub mod Nodes
pub mod Parting
pub mod Halves
