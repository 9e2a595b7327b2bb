-- Why `begins_with` meets its contract.
use Rattle.std.proofs.Common.{drop, length}
use Rattle.std.proofs.lemmas.Slice.Eq.{starts_is}
use Rattle.linearize_check_layout.proofs.Equal.{tells_decides}
use Rattle.linear_language.specs.contracts.instruction.InstructionEq.TheImpl.Laws as instruction_laws
use Rattle.linear_language.specs.Equal.{instruction_tells}
use Rattle.linearize_check.proofs.walk.begins_with.Goals as goal

pub returns : goal.returns
returns c =
    let s = starts_is (tells_decides instruction_laws.laws-law instruction_tells) c.args.code.now c.args.front.now _ c.starts_with.ensures.value in
    (λ yes. (drop (length c.args.front.now) c.args.code.now, s.0 yes), λ front. s.1 front.0 front.1)
