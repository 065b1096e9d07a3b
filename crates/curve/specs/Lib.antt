pub mod Curve
pub mod Answers
pub mod Tests
pub mod Rows
