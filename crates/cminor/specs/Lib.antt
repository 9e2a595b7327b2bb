pub mod Space
pub mod Parts
pub mod Bodies
