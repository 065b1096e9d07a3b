pub mod PageLaws
pub mod OutputLaws
