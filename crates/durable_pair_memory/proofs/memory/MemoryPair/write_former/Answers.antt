-- Why `write_former` meets its clauses `done`, `tore` and `left`.
use Rattle.std.proofs.Common.{[], length, sym}
use Rattle.durable_model_writes.specs.declared.call.Call.TheVariants.{Wrote, Tore}
use Rattle.durable_pair.proofs.Results.{on_ok, each_way}
use Rattle.durable_pair_memory.proofs.Steps.{old_steps, old_tore, old_unwritten, steps_lockstep, moves_lockstep, stays_lockstep}
use Rattle.durable_pair_memory.proofs.memory.MemoryPair.write_former.Goals as goal

pub invariant_of-self : goal.invariant_of-self
invariant_of-self c =
    let old = c.args.self.now in
    let this = c.write_one.new.this in
    let other = c.write_one.new.other in
    let n = length c.args.bytes.now in
    let same = sym old.lockstep in
    record {
      lockstep = sym (each_way c.write_one.result c.write_one.ensures.done
          (λ steps. steps_lockstep (Wrote c.args.at n) c.args.bytes.now old.former old.fresh this other same steps)
          (λ device. moves_lockstep (Tore c.args.at n) [] old.former old.fresh this other same (c.write_one.ensures.tore device))
          (λ memory. stays_lockstep old.former old.fresh this other same (c.write_one.ensures.stays memory)));
    }

pub returns-clause-done : goal.returns-clause-done
returns-clause-done c =
    on_ok c.write_one.result c.write_one.ensures.done
    (λ steps. old_steps c.args.self.now _ (Wrote c.args.at (length c.args.bytes.now)) c.args.bytes.now steps)

pub returns-clause-tore : goal.returns-clause-tore
returns-clause-tore c device = old_tore c.args.self.now _ c.args.at (length c.args.bytes.now) (c.write_one.ensures.tore device)

pub returns-clause-left : goal.returns-clause-left
returns-clause-left c memory = old_unwritten c.args.self.now _ (c.write_one.ensures.stays memory)
