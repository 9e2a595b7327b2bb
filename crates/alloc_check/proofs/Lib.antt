pub mod Accepted
pub mod Fits
pub mod Mapped
pub mod Owns
pub mod OwnRows
pub mod Live
