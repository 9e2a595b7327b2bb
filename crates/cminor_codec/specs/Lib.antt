pub mod Codes
pub mod Parts
pub mod Results
pub mod Short
