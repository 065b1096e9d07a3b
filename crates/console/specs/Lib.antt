pub mod Page
pub mod Output
