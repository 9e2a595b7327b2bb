pub mod Filled
pub mod Garbled
pub mod Noted
pub mod Redone
