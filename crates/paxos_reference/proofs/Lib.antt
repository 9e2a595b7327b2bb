pub mod Choices
pub mod Found
pub mod FromOne
pub mod OpeningLemmas
