pub mod Baseline
pub mod Slots
pub mod Rows
pub mod PassLaws
pub use Rattle.alloc_check_rules.specs.declared.equation.Equation
pub use Rattle.alloc_check_verdict.specs.Allocated
pub use Rattle.alloc_check_verdict.specs.Right
pub use Rattle.alloc_check_verdict.specs.Text
