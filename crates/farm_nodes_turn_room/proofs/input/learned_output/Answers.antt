-- Why `learned_output` meets its contract.
use Rattle.std.proofs.Common.{sym}
use Rattle.farm_nodes_turn_room.proofs.input.learned_output.Goals as goal

pub returns : goal.returns
returns g c =
    record {
      value = c.in-Some.value;
      offer = c.in-Some-fetch.offer.now;
      learned = sym c.in-Some.ensures.value;
      seen = c.in-Some-fetch.ensures;
      output = c.output.ensures;
    }
