pub mod Steps
pub mod Ascending
pub mod LinkLaws
pub mod TestLaws
pub mod SameBoard
pub mod UsableLaws
pub mod Lawful
