pub mod Decoded
pub mod UnderWay
pub mod Shows
pub mod Fitting
pub mod Stack
