pub mod Operators
pub mod Operands
pub mod Reading
pub mod Exactness
