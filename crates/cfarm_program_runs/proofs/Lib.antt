pub mod Asked
pub mod Tables
pub mod Causes
pub mod Bounded
pub mod Wholes
pub mod Placed
pub mod Linked
