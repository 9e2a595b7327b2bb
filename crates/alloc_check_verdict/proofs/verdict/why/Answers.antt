-- Why `why` meets its contract.
use Rattle.std.proofs.Common.{◌≡◌, length, rules}
use Rattle.std.specs.Option.{option_map}
use Rattle.lang_base.specs.declared.fault.Fault.TheVariants.{Node}
use Rattle.rtl_passes_marks.proofs.Verdicts.{tells-lowest}
use Rattle.alloc_check_rules.specs.Rules.{IsRightAt}
use Rattle.alloc_check_proof.specs.Allocated.{filled, HasForm}
use Rattle.alloc_check_verdict.proofs.verdict.why.Goals as goal

pub returns : goal.returns
returns c =
    let input = c.args.input.now in
    let output = c.args.output.now in
    let rows = c.args.equations.now in
    let mapped : c.map.result ≡ option_map Node c.in_ok-lowest_wrong.field-0 = search rules in
    rw mapped (tells-lowest (HasForm input output rows) (IsRightAt input output (filled input output rows)) (length input.nodes) (rw c.as_slice-rows.ensures at (c.has_form.ensures.0 c.if-not-has_form.false)) c.in_ok-lowest_wrong.field-0 (rw c.as_slice-rows.ensures at c.in_ok-lowest_wrong.ensures))
