pub mod Opening
pub mod OnFiles
pub mod Surviving
