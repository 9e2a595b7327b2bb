pub mod Distinct
pub mod Forms
pub mod Equal
pub mod Limits
