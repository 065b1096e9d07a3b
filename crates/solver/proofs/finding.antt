pub mod Placing
pub mod Slowest
pub mod Finding
