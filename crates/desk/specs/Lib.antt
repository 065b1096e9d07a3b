pub mod Held
pub mod Empty
pub mod Judged
pub mod Load
pub mod Order
pub mod Write
pub mod Steps
