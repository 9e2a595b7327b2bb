pub mod Decimals
pub mod FirstLine
