pub mod Moves
pub mod Fresh
pub mod Going
pub mod Cut
pub mod Noting
