-- Why `is_bundle_barred` meets its clause `free`.
use Rattle.std.proofs.Common.{sym, subst, ◌∙◌}
use Rattle.cfarm_files.specs.Reading.{IsKnownSo}
use Rattle.cfarm_own_files.specs.Own.{MayBeTwo}
use Rattle.cfarm_own_files.proofs.Paths.{bundle_free}
use Rattle.cfarm_own_files.proofs.barring.is_bundle_barred.Goals as goal

pub returns-clause-free : goal.returns-clause-free
returns-clause-free g c =
    let files = c.args.files.now in
    let text = c.args.text.now in
    let path = c.args.path.now in
    let other = subst (λ b. IsKnownSo (g.F.Files.same files text path) b) c.if-is_same.false c.is_same.ensures in
    let next = subst (λ b. IsKnownSo (g.F.Files.same files text c.deref.result.now) b) c.if-is_same-2.false c.is_same-else-is_same.ensures in
    let beside_it = subst (λ n. MayBeTwo g.F.Files files text n) (c.deref.ensures ∙ c.in-Ok.ensures) next in
    let free = subst (λ b. IsKnownSo (g.F.Files.free files path) b) c.if-not-is_free.false c.is_free.ensures in
    bundle_free g.F.Files files text c.args.folder.now path c.is_own.result (sym c.is_taken.ensures ∙ c.if-is_taken.false) other beside_it free c.is_own.ensures.none
