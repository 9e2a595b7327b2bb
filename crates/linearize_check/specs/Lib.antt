pub mod Baseline
pub mod Faults
pub mod OrderForm
pub mod PassLaws
pub use Rattle.linearize_check_layout.specs.Act
pub use Rattle.linearize_check_proof.specs.Rules
pub use Rattle.ltl.specs.contracts.block.Block
pub use Rattle.ltl.specs.contracts.block.Body
pub use Rattle.ltl.specs.contracts.function.Function
pub use Rattle.linear_language.specs.Function as LinearLanguageFunction
pub use Rattle.linear_language.specs.contracts.language.LinearLanguage
