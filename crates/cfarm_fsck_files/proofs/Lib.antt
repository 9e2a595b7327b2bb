mod Files
mod Ready
mod Statuses
pub mod Unlinked
