pub mod Lockstep
pub mod InMemory
