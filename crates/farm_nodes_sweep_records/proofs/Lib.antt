pub mod Taking
pub mod Fronts
