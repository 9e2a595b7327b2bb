-- Why `barred` meets its clause `free`.
use Rattle.std.proofs.Common.{refl}
use Rattle.cfarm_own_files.proofs.Paths.{all_free}
use Rattle.cfarm_own_files.proofs.barring.barred.Goals as goal

pub returns-clause-free : goal.returns-clause-free
returns-clause-free g c =
    let own = rw c.in-Ok-None.field-0-is at c.in-Ok-None.ensures.free in
    let bundles = rw c.in-Ok-None-barred_bundle.field-0-is at c.in-Ok-None-barred_bundle.ensures.free in
    let offers = rw c.in-Ok-None-barred_offers.field-0-is at c.in-Ok-None-barred_offers.ensures.free in
    all_free g.F.Files c.args.files.now c.args.text.now c.args.options c.barred_program.result (own refl) (bundles refl) (offers refl)
    c.barred_program.ensures.free
