pub mod Scopes
pub mod Arguments
pub mod AtOnce
pub mod Stacks
pub mod Resume
pub mod Costs
pub mod Steps
