pub mod Numbers
pub mod Behaviour
pub mod Keeps
pub mod Machine
pub mod Soundness
pub mod Reading
pub mod Texts
