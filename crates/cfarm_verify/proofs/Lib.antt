mod Answered
pub mod Exact
pub mod Named
pub mod Small
pub mod Told
pub mod Verified
