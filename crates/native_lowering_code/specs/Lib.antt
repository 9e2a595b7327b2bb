pub mod Adding
pub mod Kinds
pub mod Dividing
