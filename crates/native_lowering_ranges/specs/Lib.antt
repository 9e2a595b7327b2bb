pub mod Range
pub mod Cases
pub mod InRange
