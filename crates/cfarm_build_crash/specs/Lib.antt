pub mod Left
pub mod Later
pub mod Again
