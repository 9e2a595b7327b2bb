pub mod Sized
pub mod Told
