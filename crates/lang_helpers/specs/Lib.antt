pub mod Graphs
pub mod Limits
pub mod Meant
pub mod Numbers
pub mod Written
pub use Rattle.lang_base.specs.Reading
pub use Rattle.lang_base.specs.Texts
pub use Rattle.lang_base.specs.declared.errors.FormError
