pub mod Slow
pub mod Walk
