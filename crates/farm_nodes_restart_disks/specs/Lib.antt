pub mod Stopped
pub mod Left
pub mod Own
pub mod Cause
pub mod OverPair
pub mod Restarted
pub mod OwnDisk
