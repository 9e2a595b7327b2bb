pub mod Words
pub mod Operands
pub mod Lines
pub mod Whole
pub mod Doorways
