pub mod Changes
pub mod Firsts
pub mod Lists
pub mod Scopes
