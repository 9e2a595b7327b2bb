pub mod Registers
pub mod Cells
pub mod Tables
pub mod State
pub mod Shows
