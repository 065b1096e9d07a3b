pub mod Laying
pub mod Gains
pub mod Wiring
pub mod Worlds
