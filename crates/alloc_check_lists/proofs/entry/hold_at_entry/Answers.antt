-- Why `hold_at_entry` meets its contract, and its loop over `equation` keeps the invariant.
use Rattle.std.proofs.Common.{◌≤◌, length, refl, arith}
use Rattle.std.proofs.lemmas.Bool.{iff_false}
use Rattle.alloc_check_fill.specs.Rules.{HoldsAtEntry}
use Rattle.alloc_check_lists.proofs.Each.{holds_on, not_all, all_of}
use Rattle.alloc_check_lists.proofs.entry.hold_at_entry.Goals as goal

pub returns-then-not-holds_at_entry : goal.returns-then-not-holds_at_entry
returns-then-not-holds_at_entry c =
    not_all (HoldsAtEntry c.args.registers.now c.args.locations.now) c.args.equations.now c.loop-equation.equation-index _ c.loop-equation-test.true (iff_false c.holds_at_entry.ensures c.if-not-holds_at_entry.true)

pub loop-equation-preserved : goal.loop-equation-preserved
loop-equation-preserved c =
    holds_on (HoldsAtEntry c.args.registers.now c.args.locations.now) c.args.equations.now c.loop-equation.equation-index _ c.loop-equation-test.true c.loop-equation.invariant (c.holds_at_entry.ensures.0 c.if-not-holds_at_entry.false)

pub returns : goal.returns
returns c =
    let past : length c.args.equations.now ≤ c.loop-equation.equation-index = omega (arith, c.loop-equation-test.false) in (
      λ yes. all_of (HoldsAtEntry c.args.registers.now c.args.locations.now) c.args.equations.now c.loop-equation.equation-index past c.loop-equation.invariant,
      λ all. refl,
    )
