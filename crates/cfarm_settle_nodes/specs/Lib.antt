pub mod Goes
pub mod Learned
pub mod Agreed
pub mod Nodes
pub mod Leads
pub mod Offered
