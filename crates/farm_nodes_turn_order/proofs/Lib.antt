pub mod Records
pub mod Orders
pub mod Looked
pub mod Told
