-- Why `read_new` meets its clauses `does`, `honest`, `unchanged` and `time`.
use Rattle.std.proofs.Common.{[]}
use Rattle.durable_model_writes.specs.declared.call.Call.TheVariants.{Left}
use Rattle.durable_pair_memory.proofs.Steps.{new_left, moves_lockstep}
use Rattle.durable_pair_memory.proofs.AsDisk.{as_honest, as_time, left_unchanged}
use Rattle.durable_pair_memory.proofs.memory.MemoryPair.read_new.Goals as goal

pub invariant_of-self : goal.invariant_of-self
invariant_of-self c =
    let old = c.args.self.now in
    record { lockstep = moves_lockstep Left [] old.fresh old.former c.read_one.new.this c.read_one.new.other old.lockstep c.read_one.ensures.moves }

pub returns-clause-does : goal.returns-clause-does
returns-clause-does c = new_left c.args.self.now _ c.read_one.ensures.moves

pub returns-clause-honest : goal.returns-clause-honest
returns-clause-honest c = as_honest c.args.self.now _ Left [] (returns-clause-does c)

pub returns-clause-unchanged : goal.returns-clause-unchanged
returns-clause-unchanged c = left_unchanged c.args.self.now _ (returns-clause-does c)

pub returns-clause-time : goal.returns-clause-time
returns-clause-time c = as_time c.args.self.now _ Left [] (returns-clause-does c)
