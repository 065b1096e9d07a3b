pub mod Ways
pub mod Marked
pub mod Sweeping
pub mod Cones
pub mod Loops
pub mod Examples
