pub mod Best
pub mod Judged
pub mod Facts
pub mod Steps
pub mod Twelve
