pub mod Tables
pub mod Risings
pub mod Walks
pub mod Lives
