pub mod Tried
pub mod Judging
pub mod Ordering
pub mod Writing
