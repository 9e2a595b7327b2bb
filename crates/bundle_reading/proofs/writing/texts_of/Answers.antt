-- The texts of the four offers, one beside the other.
use Rattle.bundle_reading.proofs.writing.texts_of.Goals as goal

pub returns-clause-texts : goal.returns-clause-texts
returns-clause-texts c = λ i. record {
  constants = c.in_ok-constants.ensures.first i;
  expressions = c.in_ok-constants.ensures.second i;
  allocation = c.in_ok-allocation.ensures.first i;
  order = c.in_ok-allocation.ensures.second i;
}

pub returns-clause-blocks : goal.returns-clause-blocks
returns-clause-blocks c = record {
  constants = c.in_ok-constants.ensures.blocks.0;
  expressions = c.in_ok-constants.ensures.blocks.1;
  allocation = c.in_ok-allocation.ensures.blocks.0;
  order = c.in_ok-allocation.ensures.blocks.1;
}
