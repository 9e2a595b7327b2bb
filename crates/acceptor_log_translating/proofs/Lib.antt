pub mod Written
pub mod FoundNext
pub mod Writable
pub mod OldRead
