pub mod Rows
pub mod DesignLaws
