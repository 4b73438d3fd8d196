pub mod Opening
pub mod Fitting
pub mod Closing
pub mod Back
