pub mod CurveLaws
pub mod GoodLaws
pub mod Ways
pub mod Case1
pub mod RowLaws
pub mod Orders
