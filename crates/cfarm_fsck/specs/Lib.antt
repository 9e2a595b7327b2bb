pub mod Lines
pub mod Folder
pub mod Opened
pub mod Printed
pub mod Telling
pub mod Told
