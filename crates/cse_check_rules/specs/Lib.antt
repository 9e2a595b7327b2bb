pub mod Equations
pub mod Order
pub mod Ranges
pub mod Reading
pub mod Rules
pub use Rattle.constprop_check_rules.specs.Known
pub use Rattle.constprop_check_rules.specs.declared.fact.Fact
