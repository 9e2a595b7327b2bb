-- Why `read_former` meets its clause `left`.
use Rattle.std.proofs.Common.{[], sym}
use Rattle.durable_model_writes.specs.declared.call.Call.TheVariants.{Left}
use Rattle.durable_pair_memory.proofs.Steps.{old_left, moves_lockstep}
use Rattle.durable_pair_memory.proofs.memory.MemoryPair.read_former.Goals as goal

pub invariant_of-self : goal.invariant_of-self
invariant_of-self c =
    let old = c.args.self.now in
    record { lockstep = sym (moves_lockstep Left [] old.former old.fresh c.read_one.new.this c.read_one.new.other (sym old.lockstep) c.read_one.ensures.moves) }

pub returns-clause-left : goal.returns-clause-left
returns-clause-left c = old_left c.args.self.now _ c.read_one.ensures.moves
