pub mod Places
pub mod Gaps
pub mod Causes
pub mod Changes
pub mod Frames
pub mod Faults
