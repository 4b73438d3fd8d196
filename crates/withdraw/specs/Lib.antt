pub mod Asking
pub mod Plan
pub mod Storing
