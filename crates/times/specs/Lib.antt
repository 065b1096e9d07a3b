pub mod Times
pub mod Rounds
