mod OldRead
pub mod Shows
