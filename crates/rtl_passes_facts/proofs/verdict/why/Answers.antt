-- Why `why` meets its contract.
use Rattle.std.proofs.Common.{◌≡◌, length, sym, subst, rules}
use Rattle.std.specs.Option.{option_map}
use Rattle.lang_base.specs.declared.fault.Fault.TheVariants.{Node}
use Rattle.rtl_passes_marks.proofs.Verdicts.{tells-lowest}
use Rattle.rtl_passes_filled.specs.Rules.{IsRightAt}
use Rattle.rtl_passes_filled.specs.Filled.{filled_in}
use Rattle.rtl_passes_filled.specs.Accepted.{HasShape, TellsWhy}
use Rattle.rtl_passes_facts.proofs.verdict.why.Goals as goal

pub returns : goal.returns
returns g c =
    let input = c.args.input.now in
    let output = c.args.output.now in
    let rows = c.args.rows.now in
    let form = rw c.registers.ensures at (c.are_rows.ensures.0 c.if-not-are_rows.false) in
    let shape : HasShape g.R.Rules.rules input output rows = record { same = c.has_same_shape.ensures.0 c.if-not-has_same_shape.false; form = form } in
    let mapped : c.map.result ≡ option_map Node c.in_ok-wrong.wrong = search rules in
    subst (λ told. TellsWhy g.R.Rules.rules input output rows told) (sym mapped)
    (tells-lowest (HasShape g.R.Rules.rules input output rows) (IsRightAt g.R.Rules.rules input output (filled_in g.R.Rules.rules input rows)) (length input.nodes) shape c.in_ok-wrong.wrong c.in_ok-wrong.ensures)
