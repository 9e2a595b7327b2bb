pub mod Laws
pub mod PartsTaken
pub mod PartsAgain
pub mod Combining
pub mod Readers
pub mod Sets
