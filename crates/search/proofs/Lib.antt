pub mod Keeps
pub mod Marks
pub mod Listed
pub mod Any
pub mod Steps
pub mod Words
pub mod Leaves
pub mod Rows
pub mod Nodes
pub mod Shaped
pub mod Hits
pub mod Exact
pub mod Promise
pub mod Asking
pub mod Returns
pub mod Listings
mod Examples
