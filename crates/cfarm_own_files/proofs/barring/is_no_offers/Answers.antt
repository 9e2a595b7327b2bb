-- Why `is_no_offers` meets its clause `free`.
use Rattle.std.proofs.Common.{subst}
use Rattle.cfarm_files.specs.Reading.{IsKnownSo}
use Rattle.cfarm_own_files.proofs.Paths.{offers_free}
use Rattle.cfarm_own_files.proofs.barring.is_no_offers.Goals as goal

pub returns-clause-free : goal.returns-clause-free
returns-clause-free g c =
    let files = c.args.files.now in
    let path = c.args.path.now in
    let found = subst (λ b. IsKnownSo (g.F.Files.found files path) b) c.if-not-is_found.false c.is_found.ensures in
    offers_free g.F.Files files path c.args.folder.now path c.is_own.result found c.is_own.ensures.none
