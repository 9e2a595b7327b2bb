pub mod Actions
pub mod Adding
pub mod Table
