-- Why `first_words` meets its contract.
use Rattle.std.proofs.Common.{◌<◌, ◌^◌, subst}
use Rattle.std.specs.List.{AllByRecursion}
use Rattle.cminor_program_ranges.proofs.Rows.{number_by_recursion}
use Rattle.cminor_program_ranges.proofs.words.first_words.Goals as goal

pub returns : goal.returns
returns c = subst (AllByRecursion (λ w. w < 2 ^ 32)) c.as_slice.ensures (number_by_recursion (λ w. w < 2 ^ 32) c.as_slice.result.now c.are_words.ensures)
