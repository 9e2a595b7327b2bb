-- Why `is_among` meets its contract, and its loop over `other` keeps the invariant.
use Rattle.std.proofs.lemmas.Bool.{iff_false}
use Rattle.cse_check.proofs.Among.{none_more, found, none_found}
use Rattle.cse_check.proofs.moves.is_among.Goals as goal

pub loop-other-preserved : goal.loop-other-preserved
loop-other-preserved c = none_more c.args.equations.now c.args.equation c.loop-other.other-index _ c.loop-other-test.true (iff_false c.is_same.ensures c.if-is_same.false) c.loop-other.invariant

pub returns-then-is_same : goal.returns-then-is_same
returns-then-is_same c = found c.args.equations.now c.args.equation c.loop-other.other-index _ c.loop-other-test.true (c.is_same.ensures.0 c.if-is_same.true)

pub returns : goal.returns
returns c = none_found c.args.equations.now c.args.equation c.loop-other.other-index c.loop-other-test.false c.loop-other.invariant
