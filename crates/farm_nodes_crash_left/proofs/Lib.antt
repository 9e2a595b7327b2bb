pub mod Pending
pub mod Offers
pub mod Accepted
