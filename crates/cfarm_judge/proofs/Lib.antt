pub mod Bytes
pub mod OfText
pub mod Passing
pub mod Under
