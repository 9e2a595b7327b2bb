-- Why `sync_new` meets its clauses `done`, `left`, `honest`, `time` and 2 more.
use Rattle.std.proofs.Common.{[]}
use Rattle.durable_model_writes.specs.declared.call.Call.TheVariants.{Synced, Left}
use Rattle.durable_pair.proofs.Results.{on_ok, on_err, either_way}
use Rattle.durable_pair_memory.proofs.Steps.{new_steps, new_left, steps_lockstep, moves_lockstep}
use Rattle.durable_pair_memory.proofs.AsDisk.{as_honest, as_time, left_unchanged, synced_unchanged, synced_only}
use Rattle.durable_pair_memory.proofs.memory.MemoryPair.sync_new.Goals as goal

pub invariant_of-self : goal.invariant_of-self
invariant_of-self c =
    let old = c.args.self.now in
    let this = c.sync_one.new.this in
    let other = c.sync_one.new.other in
    record {
      lockstep = either_way c.sync_one.result c.sync_one.ensures.done (λ steps. steps_lockstep Synced [] old.fresh old.former this other old.lockstep steps)
          c.sync_one.ensures.moves (λ moves. moves_lockstep Left [] old.fresh old.former this other old.lockstep moves);
    }

pub returns-clause-done : goal.returns-clause-done
returns-clause-done c = on_ok c.sync_one.result c.sync_one.ensures.done (λ steps. new_steps c.args.self.now _ Synced [] steps)

pub returns-clause-left : goal.returns-clause-left
returns-clause-left c = on_err c.sync_one.result c.sync_one.ensures.moves (λ moves. new_left c.args.self.now _ moves)

pub returns-clause-honest : goal.returns-clause-honest
returns-clause-honest c =
    let old = c.args.self.now in
    either_way c.sync_one.result (returns-clause-done c) (λ does. as_honest old _ Synced [] does)
    (returns-clause-left c) (λ does. as_honest old _ Left [] does)

pub returns-clause-time : goal.returns-clause-time
returns-clause-time c =
    let old = c.args.self.now in
    either_way c.sync_one.result (returns-clause-done c) (λ does. as_time old _ Synced [] does)
    (returns-clause-left c) (λ does. as_time old _ Left [] does)

pub returns-clause-unchanged : goal.returns-clause-unchanged
returns-clause-unchanged c =
    let old = c.args.self.now in
    either_way c.sync_one.result (returns-clause-done c) (λ does. synced_unchanged old _ does)
    (returns-clause-left c) (λ does. left_unchanged old _ does)

pub returns-clause-durable : goal.returns-clause-durable
returns-clause-durable c spent = on_ok c.sync_one.result (returns-clause-done c) (λ does. synced_only c.args.self.now _ does spent)
