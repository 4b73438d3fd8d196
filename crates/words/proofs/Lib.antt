-- `Runs` and `Numbered` have that the words are the longest runs, `Covered` the cover theorem and the width of a signature; the others
-- serve the proofs of the functions, and `Examples` computes worked examples.
pub mod Runs
pub mod Numbered
pub mod Covered
pub mod Splitting
pub mod Signing
pub mod Triplets
pub mod Different
pub mod Setting
pub mod Stamping
pub mod Front
pub mod Asked
mod Examples
