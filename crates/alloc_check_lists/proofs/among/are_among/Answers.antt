-- Why `are_among` meets its contract, and its loop over `other` keeps the invariant.
use Rattle.std.proofs.Common.{◌≤◌, length, refl, arith}
use Rattle.std.specs.Prelude.{Contains}
use Rattle.alloc_check_lists.proofs.Each.{holds_on, not_all, all_of}
use Rattle.alloc_check_lists.proofs.among.are_among.Goals.{then-stands_at, else-stands_at+in-Some}
use Rattle.alloc_check_lists.proofs.among.are_among.Goals as goal

pub returns-in_default : goal.returns-in_default
returns-in_default c =
    not_all (Contains c.args.equations.now) c.args.others.now c.loop-other.other-index _ c.loop-other-test.true c.in_default.ensures.absent

pub loop-other-preserved : goal.loop-other-preserved
loop-other-preserved c =
    let on = holds_on (Contains c.args.equations.now) c.args.others.now c.loop-other.other-index _ c.loop-other-test.true c.loop-other.invariant in
    elim c.if-stands_at.branch [
      | then-stands_at w ↦ on (c.stands_at.ensures w.if-stands_at.true).1
      | else-stands_at+in-Some w ↦ on w.in-Some.ensures.found.1
    ]

pub returns : goal.returns
returns c =
    let past : length c.args.others.now ≤ c.loop-other.other-index = omega (arith, c.loop-other-test.false) in (
      λ told. all_of (Contains c.args.equations.now) c.args.others.now c.loop-other.other-index past c.loop-other.invariant,
      λ all. refl,
    )
