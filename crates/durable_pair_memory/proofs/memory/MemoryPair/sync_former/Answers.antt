-- Why `sync_former` meets its clauses `done` and `left`.
use Rattle.std.proofs.Common.{[], sym}
use Rattle.durable_model_writes.specs.declared.call.Call.TheVariants.{Synced, Left}
use Rattle.durable_pair.proofs.Results.{on_ok, on_err, either_way}
use Rattle.durable_pair_memory.proofs.Steps.{old_steps, old_left, steps_lockstep, moves_lockstep}
use Rattle.durable_pair_memory.proofs.memory.MemoryPair.sync_former.Goals as goal

pub invariant_of-self : goal.invariant_of-self
invariant_of-self c =
    let old = c.args.self.now in
    let this = c.sync_one.new.this in
    let other = c.sync_one.new.other in
    let same = sym old.lockstep in
    record {
      lockstep = sym (either_way c.sync_one.result c.sync_one.ensures.done (λ steps. steps_lockstep Synced [] old.former old.fresh this other same steps)
          c.sync_one.ensures.moves (λ moves. moves_lockstep Left [] old.former old.fresh this other same moves));
    }

pub returns-clause-done : goal.returns-clause-done
returns-clause-done c = on_ok c.sync_one.result c.sync_one.ensures.done (λ steps. old_steps c.args.self.now _ Synced [] steps)

pub returns-clause-left : goal.returns-clause-left
returns-clause-left c = on_err c.sync_one.result c.sync_one.ensures.moves (λ moves. old_left c.args.self.now _ moves)
