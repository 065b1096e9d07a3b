pub mod Network
pub mod Flow
pub mod Wired
pub mod Judge
pub mod Label
pub mod Steps
pub mod Crash
pub mod Sheet
