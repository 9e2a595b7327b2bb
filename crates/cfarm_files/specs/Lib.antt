pub mod Reading
pub mod Placing
pub mod Locking
pub mod Using
pub mod Reasons
