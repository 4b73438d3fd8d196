-- The audit's yes is soundness, both ways (`Verdict`), and its work is linear (`Work`); before them the steps that both go by.
pub mod RowLaws
pub mod ChainLaws
pub mod PathLaws
pub mod PathWords
pub mod WalkLaws
pub mod FreeLaws
pub mod AnswerLaws
pub mod Counting
pub mod Apart
pub mod WalkYes
pub mod WalkWhole
pub mod Verdict
pub mod Work
mod Examples
pub mod Either
pub mod InForm
pub mod Asked
