-- Why `are_looked_for` meets its contract, and its loop over `fact` keeps the invariant.
use Rattle.std.proofs.lemmas.Bool.{iff_false}
use Rattle.rtl_passes_filled.proofs.Rising.{left_on, unknown_here}
use Rattle.rtl_passes_facts.proofs.walk.are_looked_for.Goals as goal

pub loop-fact-preserved : goal.loop-fact-preserved
loop-fact-preserved g c =
    left_on g.R.Rules.rules.rank (g.R.Rules.makes c.args.change) (g.R.Rules.keeps c.args.change) c.args.before.now c.args.after.now c.loop-fact.left.now c.from_place-left.result.now c.loop-fact.fact-index c.fact-item.result c.fact-item.is c.loop-fact-test.true c.requires.after c.loop-fact.invariant (rw c.place.ensures.value at c.from_place-left.ensures.rising) (rw c.place.ensures.value at c.from_place-left.ensures.same) (c.is_known.ensures.0 c.if-not-is_known.false)

pub returns-then-not-is_known : goal.returns-then-not-is_known
returns-then-not-is_known g c =
    unknown_here g.R.Rules.rules.rank (g.R.Rules.makes c.args.change) (g.R.Rules.keeps c.args.change) c.args.before.now c.args.after.now c.loop-fact.left.now c.from_place-left.result.now c.loop-fact.fact-index c.fact-item.result c.fact-item.is c.loop-fact-test.true c.requires.after c.loop-fact.invariant (rw c.place.ensures.value at c.from_place-left.ensures.rising) (rw c.place.ensures.value at c.from_place-left.ensures.same) (iff_false c.is_known.ensures c.if-not-is_known.true)
