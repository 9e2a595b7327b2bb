-- Why `ends_with` meets its contract.
use Rattle.std.proofs.Common.{ap, ◌∙◌}
use Rattle.alloc_check_live.specs.Walks.{is_that}
use Rattle.alloc_check_live.proofs.Risings.{last_tells}
use Rattle.alloc_check_live.proofs.numbers.ends_with.Goals as goal

pub returns-in-Some : goal.returns-in-Some
returns-in-Some c = ap (λ o. is_that o c.args.number) c.in-Some.ensures.value ∙ last_tells c.args.numbers.now c.args.number
