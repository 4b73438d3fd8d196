-- The laws of signatures, for the crates that link this one; `Examples` computes the definitions on numbers that are written out.
pub mod Bits
pub mod Wide
pub mod Covering
pub mod Difference
pub mod FirstWord
mod Examples
