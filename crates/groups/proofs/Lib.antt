pub mod Groups
pub mod Forms
pub mod Writing
pub mod NumberLaws
pub mod RoundTrip
