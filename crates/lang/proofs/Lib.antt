pub mod NameTests
pub mod Forms
pub mod NamedRows
pub mod Texts
pub mod Whole
