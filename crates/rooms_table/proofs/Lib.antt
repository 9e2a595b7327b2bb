pub mod Tables
pub mod Places
pub mod Lifting
pub mod Dealing
pub mod Opening
