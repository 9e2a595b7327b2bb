pub mod Blocks
pub mod Lists
pub mod Ends
pub mod Expressions
pub mod Changes
pub mod StatementEnds
