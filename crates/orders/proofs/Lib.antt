pub mod Writers
pub mod OrderLaws
pub mod Kept
pub mod Faults
pub mod Examples
