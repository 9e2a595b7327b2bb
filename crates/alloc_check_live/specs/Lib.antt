pub mod Liveness
pub mod Lists
pub mod Tables
pub mod Walks
