pub mod Verdict
pub mod Judging
pub mod Solve
pub mod Wiring
pub mod Finding
pub mod Reading
