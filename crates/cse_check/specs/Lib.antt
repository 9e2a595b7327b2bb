pub mod Baseline
pub mod Sources
pub mod PassLaws
pub mod Change
pub use Rattle.cse_check_rules.specs.declared.equation.Equation
pub use Rattle.cse_check_rules.specs.Fact as CseCheckRulesFact
pub use Rattle.rtl_passes_facts.specs.NodeRow
pub use Rattle.cse_check_rules.specs.Rules
pub use Rattle.cse_check_rules.specs.Order
