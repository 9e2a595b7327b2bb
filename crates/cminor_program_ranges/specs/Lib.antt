pub mod Heads
pub mod Names
pub use Rattle.lang.specs.Form
