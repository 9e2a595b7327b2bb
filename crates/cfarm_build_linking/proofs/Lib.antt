mod Bundling
pub mod Carrying
mod Firsts
mod Neighbours
mod Refusing
