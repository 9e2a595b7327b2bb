pub mod Laws
pub mod Tokens
pub mod Changes
