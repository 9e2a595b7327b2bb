pub mod OldText
pub mod OldFault
pub mod OldLaws
pub mod Migrated
pub mod Keeps
