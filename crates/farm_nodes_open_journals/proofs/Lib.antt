pub mod Next
pub mod InFront
pub mod Listed
pub mod ByJournal
pub mod Behind
