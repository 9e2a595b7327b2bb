-- Why `is_native` meets its clauses `same` and `other`.
use Rattle.std.proofs.Common.{sym, ◌∙◌}
use Rattle.std.proofs.lemmas.Slice.Eq.{bytes_eq-Decides}
use Rattle.std.proofs.lemmas.Bool.{false≢true}
use Rattle.cfarm_program_looks.proofs.vouching.is_native.Goals as goal

pub returns-in-Ok-clause-same : goal.returns-in-Ok-clause-same
returns-in-Ok-clause-same c = λ is.
    let made = c.in-Ok.ensures.made in
    let told = rw c.deref.ensures.value at c.is_same.ensures in
    (made.0, made.1, (bytes_eq-Decides c.args.native.now c.in-Ok.text.items).0 (sym told ∙ is) ∙ made.2)

pub returns-in-Ok-clause-other : goal.returns-in-Ok-clause-other
returns-in-Ok-clause-other c = λ is.
    let text = c.in-Ok.text.items in
    let told = rw c.deref.ensures.value at c.is_same.ensures in
    (text, c.in-Ok.ensures.made, λ same. false≢true (sym is ∙ told ∙ (bytes_eq-Decides c.args.native.now text).1 same))
