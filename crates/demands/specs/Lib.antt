pub mod Same
pub mod Boards
pub mod Loads
pub mod Slow
pub mod Orders
pub mod Reached
