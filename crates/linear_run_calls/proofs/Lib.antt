pub mod FrameWords
pub mod Targets
pub mod Written
pub mod Frames
pub mod Passing
pub mod Stood
pub mod Calling
pub mod Returning
