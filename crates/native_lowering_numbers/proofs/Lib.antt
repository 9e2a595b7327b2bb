pub mod Wrapped
pub mod Asked
pub mod Shifts
pub mod Quotients
pub mod Halving
