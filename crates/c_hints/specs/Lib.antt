pub mod Keywords
pub mod Syntax
pub mod Missing
pub mod Numbers
pub mod Limits
pub mod Names
pub mod Hints
