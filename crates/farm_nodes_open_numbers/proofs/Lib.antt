pub mod OneRoom
pub mod Left
pub mod Seated
