pub mod Leading
pub mod Acting
