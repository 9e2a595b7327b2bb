pub mod Listed
pub mod Tests
