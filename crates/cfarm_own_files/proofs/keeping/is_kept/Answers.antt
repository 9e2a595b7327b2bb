-- Why `is_kept` meets its clause `free`.
use Rattle.std.proofs.Common.{sym, subst, ◌∙◌}
use Rattle.cfarm_files.specs.Reading.{IsKnownSo}
use Rattle.cfarm_own_files.specs.Own.{MayBeTwo}
use Rattle.cfarm_own_files.proofs.keeping.is_kept.Goals as goal

pub returns-clause-free : goal.returns-clause-free
returns-clause-free g c = λ _.
    let files = c.args.files.now in
    let read = c.args.read.now in
    let path = c.args.path.now in
    let next = subst (λ b. IsKnownSo (g.F.Files.same files read c.deref.result.now) b) c.if-is_same-2.false c.is_same-else-is_same.ensures in
    record {
      name = sym c.is_taken.ensures ∙ c.if-is_taken.false;
      not_read = subst (λ b. IsKnownSo (g.F.Files.same files read path) b) c.if-is_same.false c.is_same.ensures;
      not_beside = subst (λ n. MayBeTwo g.F.Files files read n) (c.deref.ensures ∙ c.in-Ok.ensures) next;
    }
