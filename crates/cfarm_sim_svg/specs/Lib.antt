pub mod Playing
pub mod Drawn
