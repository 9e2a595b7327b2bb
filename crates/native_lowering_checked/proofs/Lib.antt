pub mod Passing
pub mod Shifting
pub mod Rounding
pub mod Dividing
pub mod Unchecked
