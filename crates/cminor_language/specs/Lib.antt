pub mod Results
pub mod Same
pub mod Comparing
pub use Rattle.cminor_form.specs.Reading
