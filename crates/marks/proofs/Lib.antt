pub mod Bits
pub mod Counts
pub mod Ways
pub mod Rows
