pub mod Repeating
pub mod Listing
pub mod OfGlobals
pub mod Functions
pub mod Declaring
pub mod Laws
pub mod Refusing
