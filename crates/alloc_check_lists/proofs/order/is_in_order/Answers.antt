-- Why `is_in_order` meets its contract.
use Rattle.std.proofs.Common.{◌<◌, ◌≤◌, ◌^◌, length, sym, ◌∙◌, arith}
use Rattle.std.specs.Prelude.{All}
use Rattle.std.proofs.lemmas.Bool.{leb-true}
use Rattle.std.proofs.lemmas.List.Elements.{recursion_from_All}
use Rattle.alloc_check_fill.specs.Rules.{EquationFits}
use Rattle.alloc_check_lists.proofs.Ranks.{rise_ranks}
use Rattle.alloc_check_lists.proofs.order.is_in_order.Goals.{then-equations-from, else-equations-from}
use Rattle.alloc_check_lists.proofs.order.is_in_order.Goals as goal

pub returns-then-fit : goal.returns-then-fit
returns-then-fit c =
    let registers = c.args.registers in
    let slots = c.args.slots in
    let equations = c.args.equations.now in
    let parts : (length equations < 2 ^ 16) × All (EquationFits registers slots) equations =
    elim c.if-equations-from.branch [
      | then-equations-from w ↦ (omega arith, w.fit.ensures.0 (sym w.value-is ∙ c.if-fit.true))
      | else-equations-from w ↦ absurd (omega (arith, leb-true _ _ (sym w.value-is ∙ c.if-fit.true)))
    ] in
    let few : slots ≤ 65536 = omega arith in
    let order = rise_ranks registers slots few equations (recursion_from_All (EquationFits registers slots) equations parts.1) in (
      λ yes. record { few = parts.0; each = parts.1; rising = order.1 (c.rise.ensures.0 yes) },
      λ in_order. c.rise.ensures.1 (order.0 in_order.rising),
    )
