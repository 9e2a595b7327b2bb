pub mod OneText
pub mod PartFronts
