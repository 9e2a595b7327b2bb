pub mod Carrying
pub mod Filling
pub mod Marked
pub mod Shapes
pub mod Sound
pub mod Places
pub mod Rising
