pub mod Layout
pub mod Orders
pub mod Rules
pub mod Related
pub mod Theorem
pub use Rattle.linear_language.specs.Function
pub use Rattle.linear_language.specs.Labels
pub use Rattle.linear_language.specs.declared.instruction.Instruction
