pub mod Equal
pub mod Graphs
pub mod Growth
pub mod Limits
pub mod Forms
pub mod Lists
pub mod Parts
