pub mod Carried
mod Shown
