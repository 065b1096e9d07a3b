pub mod Boards
pub mod Rows
pub mod Promised
pub mod Table
