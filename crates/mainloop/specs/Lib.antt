pub mod Judging
pub mod Labelling
pub mod Lowering
pub mod Pushing
pub mod Crashing
