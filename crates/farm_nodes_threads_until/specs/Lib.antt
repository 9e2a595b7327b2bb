pub mod Places
pub mod Early
