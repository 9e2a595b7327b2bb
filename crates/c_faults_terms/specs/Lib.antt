pub mod Terms
pub mod Shapes
pub mod Adding
