pub mod Ways
pub mod Moved
pub mod Places
pub mod LinkEdits
pub mod PlainEdits
pub mod Commute
