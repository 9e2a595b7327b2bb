pub mod Openings
pub mod Going
pub mod Three
pub mod Meetings
pub mod Nodes
