pub mod Fitting
pub mod Distinct
