pub mod Nodes
pub mod Offered
pub mod Accepted
pub mod Texts
