pub mod Filled
pub mod Operating
pub mod Failing
pub mod Standing
pub mod Running
pub mod Safe
