-- Why `write_summary` meets its clause `added`.
use Rattle.std.proofs.Common.{◌≡◌, ◌++◌, ◌∷◌, [], false, refl}
use Rattle.std.specs.Prelude.{◌==◌, ◌&&◌}
use Rattle.acceptor_log_form.specs.declared.record.Record.{Record}
use Rattle.acceptor_log_form.specs.declared.record.Record.TheVariants.{Summary}
use Rattle.acceptor_log_old.specs.Migrated.{told}
use Rattle.acceptor_log_translating.proofs.Written.{summary_added}
use Rattle.acceptor_log_translating.proofs.translating.write_summary.Goals as goal

pub returns-in-Ok-clause-added : goal.returns-in-Ok-clause-added
returns-in-Ok-clause-added c =
    let k = c.args.kept in
    let r : Record = Summary c.args.room c.started.result c.promised.result c.vote_of.result in
    let some : (k.started == 0 && k.promised == 0) ≡ false = cc in
    let is : r ≡ Summary c.args.room k.started k.promised (told k.accepted) =
    λ i. Summary c.args.room (c.started.ensures i) (c.promised.ensures i) (c.vote_of.ensures i) in
    let before = c.args.out.now.items in
    summary_added c.args.room k r before (before ++ 1 ∷ []) c.write_behind_gate.new.out.items some is c.body_len-length.ensures.fits refl c.in-Ok.ensures
