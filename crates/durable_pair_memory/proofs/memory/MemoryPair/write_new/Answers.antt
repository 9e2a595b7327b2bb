-- Why `write_new` meets its clauses `done`, `tore`, `left`, `honest` and 5 more.
use Rattle.std.proofs.Common.{[], length, refl, sym, subst}
use Rattle.durable_model_writes.specs.Writes.{Torn, torn_overwritten}
use Rattle.durable_model_writes.specs.declared.call.Call.TheVariants.{Wrote, Tore, Left}
use Rattle.durable_model_writes.specs.Writes.{torn_nothing}
use Rattle.durable_pair_memory.specs.InMemory.{seen_new}
use Rattle.durable_pair.proofs.Results.{on_ok, each_way}
use Rattle.durable_pair_memory.proofs.Steps.{new_steps, new_tore, new_unwritten, steps_lockstep, moves_lockstep, stays_lockstep}
use Rattle.durable_pair_memory.proofs.AsDisk.{as_honest, as_time, left_unchanged, wrote_follows, tore_follows, left_follows}
use Rattle.durable_pair_memory.proofs.memory.MemoryPair.write_new.Goals as goal

pub invariant_of-self : goal.invariant_of-self
invariant_of-self c =
    let old = c.args.self.now in
    let this = c.write_one.new.this in
    let other = c.write_one.new.other in
    let n = length c.args.bytes.now in
    record {
      lockstep = each_way c.write_one.result c.write_one.ensures.done
          (λ steps. steps_lockstep (Wrote c.args.at n) c.args.bytes.now old.fresh old.former this other old.lockstep steps)
          (λ device. moves_lockstep (Tore c.args.at n) [] old.fresh old.former this other old.lockstep (c.write_one.ensures.tore device))
          (λ memory. stays_lockstep old.fresh old.former this other old.lockstep (c.write_one.ensures.stays memory));
    }

pub returns-clause-done : goal.returns-clause-done
returns-clause-done c =
    on_ok c.write_one.result c.write_one.ensures.done
    (λ steps. new_steps c.args.self.now _ (Wrote c.args.at (length c.args.bytes.now)) c.args.bytes.now steps)

pub returns-clause-tore : goal.returns-clause-tore
returns-clause-tore c device = new_tore c.args.self.now _ c.args.at (length c.args.bytes.now) (c.write_one.ensures.tore device)

pub returns-clause-left : goal.returns-clause-left
returns-clause-left c memory = new_unwritten c.args.self.now _ (c.write_one.ensures.stays memory)

pub returns-clause-honest : goal.returns-clause-honest
returns-clause-honest c =
    let old = c.args.self.now in
    let n = length c.args.bytes.now in
    each_way c.write_one.result (returns-clause-done c)
    (λ does. as_honest old _ (Wrote c.args.at n) c.args.bytes.now does)
    (λ device. as_honest old _ (Tore c.args.at n) [] (returns-clause-tore c device))
    (λ memory. as_honest old _ Left [] (returns-clause-left c memory))

pub returns-clause-time : goal.returns-clause-time
returns-clause-time c =
    let old = c.args.self.now in
    let n = length c.args.bytes.now in
    each_way c.write_one.result (returns-clause-done c)
    (λ does. as_time old _ (Wrote c.args.at n) c.args.bytes.now does)
    (λ device. as_time old _ (Tore c.args.at n) [] (returns-clause-tore c device))
    (λ memory. as_time old _ Left [] (returns-clause-left c memory))

pub returns-clause-written : goal.returns-clause-written
returns-clause-written c = on_ok c.write_one.result (returns-clause-done c) (λ does. does.sees)

pub returns-clause-others : goal.returns-clause-others
returns-clause-others c =
    let seen = seen_new c.args.self.now in
    let bytes = c.args.bytes.now in
    each_way c.write_one.result (returns-clause-done c)
    (λ does. subst (Torn c.args.at (length bytes) seen) (sym does.sees) (torn_overwritten seen c.args.at bytes))
    (λ device. (returns-clause-tore c device).sees)
    (λ memory. subst (Torn c.args.at (length bytes) seen) (sym (returns-clause-left c memory).sees) (torn_nothing seen c.args.at (length bytes)))

pub returns-clause-crash : goal.returns-clause-crash
returns-clause-crash c spent =
    let old = c.args.self.now in
    let n = length c.args.bytes.now in
    each_way c.write_one.result (returns-clause-done c)
    (λ does. wrote_follows old _ c.args.at n c.args.bytes.now refl does spent)
    (λ device. tore_follows old _ c.args.at n (returns-clause-tore c device) spent)
    (λ memory. left_follows old _ c.args.at n (returns-clause-left c memory) spent)

pub returns-clause-unwritten : goal.returns-clause-unwritten
returns-clause-unwritten c memory = left_unchanged c.args.self.now _ (returns-clause-left c memory)
