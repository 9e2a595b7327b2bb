pub mod Form
pub mod Fronts
pub mod Shorts
pub mod Reading
