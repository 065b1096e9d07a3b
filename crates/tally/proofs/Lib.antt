pub mod LentLaws
pub mod SessionLaws
