pub mod Continuing
pub mod Taking
pub mod Again
pub mod Staying
pub mod Laws
pub mod Beginning
