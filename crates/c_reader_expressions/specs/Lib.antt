pub mod Making
pub mod Measuring
