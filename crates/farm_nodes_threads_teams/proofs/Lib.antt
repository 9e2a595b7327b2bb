pub mod Taking
pub mod Stacks
pub mod Begins
