-- Why `barred_bundle` meets its clause `barred`.
use Rattle.std.specs.Prelude.{option_copied}
use Rattle.std.specs.String.{string_bytes}
use Rattle.std.proofs.Common.{ap}
use Rattle.cfarm_own_files.proofs.Paths.{bundle_barred}
use Rattle.cfarm_own_files.proofs.barring.barred_bundle.Goals as goal

pub returns-in-Ok-clause-barred : goal.returns-in-Ok-clause-barred
returns-in-Ok-clause-barred g c =
    bundle_barred g.F.Files c.args.files.now c.args.text.now c.args.options (λ s. string_bytes s) c.in-Some.path.now c.in-Ok.is_barred c.barred_path.result
    c.barred_path.ensures.barred c.barred_path.ensures.so (ap (λ o. option_copied o) c.in-Some.is) c.in-Ok.ensures.barred
