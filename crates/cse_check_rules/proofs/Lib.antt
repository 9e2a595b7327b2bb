pub mod Equal
pub mod Holding
pub mod Sound
pub mod Forms
pub mod Ranks
