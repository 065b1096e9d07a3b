pub mod FileCases
pub mod LongestFile
