pub mod Written
pub mod OneOf
