pub mod Safe
pub mod Standing
