pub mod Chains
pub mod Linked
pub mod Numbers
pub mod Refused
pub mod Texts
pub mod Valid
pub use Rattle.alloc_check.specs.Allocated
pub use Rattle.alloc_check.specs.Right
pub use Rattle.alloc_check.specs.Text
pub use Rattle.rtlgen.specs.Refused as RtlgenRefused
pub use Rattle.cse_check.specs.Rules
pub use Rattle.cse_check.specs.Equation
pub use Rattle.alloc_check.specs.Equation as AllocCheckRulesEquation
pub use Rattle.linearize_check.specs.Rules as LinearizeCheckRules
pub use Rattle.cminor_program_ranges.specs.Names
pub use Rattle.cse_check.specs.Order
pub use Rattle.constprop_check.specs.NodeRow
pub use Rattle.constprop_check.specs.Rules as ConstpropCheckRules
pub use Rattle.constprop_check.specs.Fact
pub use Rattle.linearize_check.specs.OrderForm
