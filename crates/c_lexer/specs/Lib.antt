pub mod Answers
pub mod Closings
pub mod FaultsAt
pub mod Found
pub mod Refusals
pub mod Texts
