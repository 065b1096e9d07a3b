pub mod Ways
pub mod CriticalLaws
pub mod RowLaws
pub mod SetLaws
pub mod Turns
pub mod KinLaws
pub mod Examples
