pub mod Images
pub mod Does
