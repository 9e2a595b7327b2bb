pub mod Trees
pub mod Views
pub mod Values
pub mod State
pub mod Meaning
pub mod Growth
pub use Rattle.ints.specs.declared.operators.Op
