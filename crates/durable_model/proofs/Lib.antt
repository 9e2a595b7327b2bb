pub mod Elapsed
