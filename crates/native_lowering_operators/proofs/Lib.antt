pub mod Scratched
pub mod Written
pub mod Copying
pub mod Turning
pub mod Making
pub mod Comparing
