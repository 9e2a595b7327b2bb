-- Why `from_slot` meets its contract.
use Rattle.oracle_graphs.proofs.reaching.from_slot.Goals as goal

pub returns : goal.returns
returns c = λ slots target source.
    let to = c.put_away-to.ensures slots target in
    record {
      first = record { target = to.register; source = source; through = tt };
      second = to.step;
      act = tt;
      after = tt;
    }
