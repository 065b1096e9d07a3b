pub mod Gains
pub mod Steps
pub mod Arcs
pub mod Bridge
pub mod Nodes
pub mod Worlds
