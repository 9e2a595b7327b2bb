pub mod Arguments
pub mod Running
pub mod States
