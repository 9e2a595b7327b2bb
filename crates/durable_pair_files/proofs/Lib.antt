mod Lifted
mod AsFileDisk
mod AsRead
