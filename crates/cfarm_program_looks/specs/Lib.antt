pub mod Emitting
pub mod Judging
pub mod Listing
pub mod Showing
pub mod Reading
pub mod Verifying
pub mod Vouching
