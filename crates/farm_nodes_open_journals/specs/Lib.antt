pub mod WhichJournal
pub mod Journals
pub mod Steps
