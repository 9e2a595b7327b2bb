pub mod CharacterFronts
pub mod CommentFronts
pub mod Lexed
pub mod OneReading
pub mod Sequences
pub mod Unique
