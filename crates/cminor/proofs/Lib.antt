pub mod Mains
pub mod Fitting
pub mod Listed
pub mod Bodies
pub mod Cutting
pub mod InRange
pub mod Zeros
