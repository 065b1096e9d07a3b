pub mod ParseLaws
pub mod Stands
pub mod Filling
pub mod WritingLaws
pub mod RunLaws
pub mod CurveFileLaws
pub mod Ways
pub mod CurveWriting
