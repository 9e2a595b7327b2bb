pub mod Needs
pub mod Nodes
pub mod FunctionsFit
pub mod Examples
pub mod Firsts
pub mod Made
pub mod Small
