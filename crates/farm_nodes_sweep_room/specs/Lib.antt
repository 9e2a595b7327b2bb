pub mod StagedOffer
pub mod Chosen
