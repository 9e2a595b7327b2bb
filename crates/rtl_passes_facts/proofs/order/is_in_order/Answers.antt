-- Why `is_in_order` meets its contract.
use Rattle.std.proofs.Common.{◌<◌, ◌^◌, length, sym, ◌∙◌, arith}
use Rattle.std.specs.Prelude.{All}
use Rattle.std.proofs.lemmas.Bool.{leb-true}
use Rattle.std.proofs.lemmas.List.Elements.{recursion_from_All}
use Rattle.rtl_passes_facts.proofs.order.is_in_order.Goals.{then-facts-from, else-facts-from}
use Rattle.rtl_passes_facts.proofs.order.is_in_order.Goals as goal

pub returns-then-are_fit : goal.returns-then-are_fit
returns-then-are_fit g c =
    let registers = c.args.registers in
    let facts = c.args.facts.now in
    let Fits = g.R.Rules.rules.Fits registers in
    let parts : (length facts < 2 ^ 16) × All Fits facts =
    elim c.if-facts-from.branch [
      | then-facts-from w ↦ (omega arith, w.are_fit.ensures.0 (sym w.value-is ∙ c.if-are_fit.true))
      | else-facts-from w ↦ absurd (omega (arith, leb-true _ _ (sym w.value-is ∙ c.if-are_fit.true)))
    ] in
    let order = g.met.R.Rules.ranked registers (omega arith) facts (recursion_from_All Fits facts parts.1) in (
      λ yes. record { few = parts.0; each = parts.1; rising = order.1 (c.rise.ensures.0 yes) },
      λ in_order. c.rise.ensures.1 (order.0 in_order.rising),
    )
