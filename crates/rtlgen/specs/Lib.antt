pub mod Numbers
pub mod Made
pub mod Refused
pub mod InRange
