pub mod Fill
pub mod Sets
pub mod Right
pub mod Ranks
pub mod Needed
pub use Rattle.alloc_check_rules.specs.Pairs
pub use Rattle.alloc_check_rules.specs.Rules
pub use Rattle.alloc_check_rules.specs.declared.equation.Equation
