pub mod Offers
pub mod Places
pub mod Records
