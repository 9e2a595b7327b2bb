pub mod Equations
pub mod Pairs
pub mod Rules
pub mod Holding
pub mod Steps
pub mod Laws
pub use Rattle.rtl_passes.specs.Faults
pub use Rattle.rtl_passes.specs.Instruction
pub use Rattle.rtl_passes.specs.Act
pub use Rattle.ltl.specs.Function
pub use Rattle.ltl.specs.declared.block.Block
pub use Rattle.rtl_passes.specs.Arguments
pub use Rattle.rtl_passes.specs.Function as RtlLanguageFunction
pub use Rattle.ltl.specs.declared.block.Body
