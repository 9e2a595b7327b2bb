pub mod Adding
pub mod Sources
