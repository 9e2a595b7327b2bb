pub mod Commands
pub mod FirstLine
pub mod Texts
