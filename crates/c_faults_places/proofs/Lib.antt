pub mod Counting
pub mod Lists
pub mod Tables
