pub mod Expressions
pub mod Programs
pub mod Statements
pub mod Texts
