pub mod Rest
pub mod Acknowledged
pub mod Faults
pub mod Calls
pub mod Disks
pub mod Crashes
