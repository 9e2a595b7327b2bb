-- Both passes keep the number of registers.
use Rattle.std.proofs.Common.{◌≤◌, ap, sym, subst, ◌∙◌}
use Rattle.farm_nodes.proofs.law.stays_small.Goals as goal

pub returns : goal.returns
returns c = λ goes few.
    let first = c.validated.ensures.accepted in
    let second = c.validated-2.ensures.accepted in
    subst (λ n. n ≤ 2048) (sym (second.shape.same.registers ∙ ap (λ f. f.registers) goes ∙ first.shape.same.registers)) few
