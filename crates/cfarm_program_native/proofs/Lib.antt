pub mod Placing
pub mod Statuses
