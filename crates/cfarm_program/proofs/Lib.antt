pub mod Placing
pub mod Tables
