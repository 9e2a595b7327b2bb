pub mod Refused
pub mod Told
pub mod Ready
pub use Rattle.c_texts.specs.Accepted
pub use Rattle.cminor_program_ranges.specs.Names
