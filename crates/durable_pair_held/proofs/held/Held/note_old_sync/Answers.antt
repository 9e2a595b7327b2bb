-- Why `note_old_sync` meets its clause `does`.
use Rattle.std.proofs.Common.{refl}
use Rattle.durable_pair_held.specs.declared.noted.Noted.TheVariants.{Old}
use Rattle.durable_pair_held.specs.declared.noted.Step.TheVariants.{Sync}
use Rattle.durable_pair_held.specs.Held.{past_of}
use Rattle.durable_pair_held.proofs.Noting.{old_synced, last_first}
use Rattle.durable_pair_held.proofs.held.Held.note_old_sync.Goals as goal

pub returns-clause-does : goal.returns-clause-does
returns-clause-does c =
    let old = c.args.self.now in
    let notes = last_first old.notes.items old.notes.items c.push_reserved.new.self.items (Old Sync) refl c.push_reserved.ensures.items in
    old_synced (past_of old) _ (λ i. record { notes = notes i; new = (old.bytes.items, old.lost.items); old = (old.old_bytes.items, old.old_lost.items) })
