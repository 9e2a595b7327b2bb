pub mod Refusals
pub mod Text
pub mod Reading
pub mod Fronts
pub mod OneFunction
pub mod Proposals
