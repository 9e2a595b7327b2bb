pub mod Fits
pub mod Spelling
pub mod Reading
pub use Rattle.lang_helpers.specs.Limits
