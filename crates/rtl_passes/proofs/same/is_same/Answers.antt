-- Why `is_same` meets its contract.
use Rattle.rtl_language.proofs.Equal.{tells_decides}
use Rattle.rtl_language.specs.contracts.instruction.InstructionEq.TheImpl.Laws as instruction_laws
use Rattle.rtl_language.specs.Equal.{instruction_tells}
use Rattle.rtl_passes.proofs.same.is_same.Goals as goal

pub returns : goal.returns
returns c = rw c.eq.ensures (tells_decides instruction_laws.laws-law instruction_tells c.args.first.now c.args.second.now)
