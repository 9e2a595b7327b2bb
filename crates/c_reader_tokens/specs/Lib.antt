pub mod Reading
pub mod Peeking
pub mod Tokens
pub mod Assigning
