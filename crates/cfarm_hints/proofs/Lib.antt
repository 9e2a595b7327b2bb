pub mod Unhinted
