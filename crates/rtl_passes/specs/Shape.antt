-- When two functions differ in their instructions alone.
use Rattle.std.specs.Prelude.{◌≡◌, length}
use Rattle.rtl_language.specs.Function.{FunctionData}

-- the same parameters, registers, entry and number of nodes
pub record HasSameShape (input output : FunctionData) : Type 0 where
  pub parameters : output.parameters ≡ input.parameters
  pub registers : output.registers ≡ input.registers
  pub entry : output.entry ≡ input.entry
  pub nodes : length output.nodes ≡ length input.nodes
