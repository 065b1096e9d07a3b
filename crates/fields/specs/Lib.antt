pub mod Parse
pub mod Writing
pub mod CurveFile
pub mod LinkFile
