-- Why the loop of `place_of` over `count` keeps the invariant.
use Rattle.std.proofs.Common.{arith, ◌∙◌}
use Rattle.c_places.proofs.Counting.{after_more}
use Rattle.c_places.proofs.place.place_of.Goals as goal

pub loop-count-preserved : goal.loop-count-preserved
loop-count-preserved c = record {
  place = c.behind-place.ensures.place ∙ after_more c.front_of-front.result.now c.loop-count.count c.loop-count.place (omega arith) c.loop-count.invariant.place;
  line = omega (arith, c.behind-place.ensures.near.0, c.loop-count.invariant.line);
  column = omega (arith, c.behind-place.ensures.near.1, c.loop-count.invariant.column);
}
