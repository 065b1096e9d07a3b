pub mod Tried
pub mod Sets
pub mod Numbers
pub mod Links
