pub mod Critical
pub mod Kin
pub mod Steps
