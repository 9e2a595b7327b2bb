pub mod Taken
pub mod Dealt
pub mod Begun
pub mod Back
pub mod Teams
