pub mod Frames
pub mod Levels
pub mod Placing
pub mod Printing
pub mod Stacks
pub mod Stops
