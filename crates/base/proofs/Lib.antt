-- A proof splits by a comparison, and a choice says by which side it went.
pub mod Split
pub mod ChoiceLaws
-- Each definition of specs/ has its laws here.
pub mod FirstLaws
pub mod SumLaws
pub mod EveryLaws
pub mod ListLaws
pub mod FoldLaws
