pub mod Outputs
pub mod Operators
pub mod Forms
pub mod Equal
pub mod Distinct
pub mod Words
pub mod Limits
