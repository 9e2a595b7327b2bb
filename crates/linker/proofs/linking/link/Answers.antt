-- What is linked, as plain data.
use Rattle.std.proofs.Common.{sym, subst}
use Rattle.std.proofs.lemmas.Result.{err_from_is_err_and}
use Rattle.lang_base.specs.Keeps.{Keeps}
use Rattle.linker.specs.Chains.{Refusal}
use Rattle.linker.proofs.Fronts.{linked_along}
use Rattle.linker.proofs.Keeping.{outputs, same_names, chained, linked_keeps}
use Rattle.linker.proofs.Whole.{only_memory}
use Rattle.linker.proofs.linking.link.Goals as goal

pub returns-clause-ok : goal.returns-clause-ok
returns-clause-ok g c =
    let are = linked_along c.as_slice-2.result.now c.args.program.now.functions c.args.named.now _ c.from_vec.result c.as_slice-2.ensures c.from_vec.ensures c.in_ok-functions.ensures.ok in
    let globals = c.in_ok-globals.ensures in
    let functions = outputs c.args.program.now.functions c.args.named.now c.from_vec.result are in
    λ i. record { globals = globals i; functions = functions i }

pub returns-clause-same_names : goal.returns-clause-same_names
returns-clause-same_names g c =
    let are = linked_along c.as_slice-2.result.now c.args.program.now.functions c.args.named.now _ c.from_vec.result c.as_slice-2.ensures c.from_vec.ensures c.in_ok-functions.ensures.ok in
    same_names c.args.program.now.functions c.args.named.now c.from_vec.result are

pub returns-clause-chained : goal.returns-clause-chained
returns-clause-chained g c =
    let are = linked_along c.as_slice-2.result.now c.args.program.now.functions c.args.named.now _ c.from_vec.result c.as_slice-2.ensures c.from_vec.ensures c.in_ok-functions.ensures.ok in
    chained c.args.program.now.functions c.args.named.now c.from_vec.result are

pub returns-clause-keeps : goal.returns-clause-keeps
returns-clause-keeps g c =
    let are = linked_along c.as_slice-2.result.now c.args.program.now.functions c.args.named.now _ c.from_vec.result c.as_slice-2.ensures c.from_vec.ensures c.in_ok-functions.ensures.ok in
    let globals = c.in_ok-globals.ensures in
    let keeps = linked_keeps g.P1.In.Language.fits g.P1.Out.Language.fits g.P2.Out.Language.fits g.P3.Out.Language.fits g.P4.Out.Language.fits
    g.P1.Pass.accepts g.P2.Pass.accepts g.P3.Pass.accepts g.P4.Pass.accepts
    g.P1.In.Language.run g.P1.Out.Language.run g.P2.Out.Language.run g.P3.Out.Language.run g.P4.Out.Language.run
    g.met.P1.Pass.sound g.met.P2.Pass.sound g.met.P3.Pass.sound g.met.P4.Pass.sound
    c.args.program.now.globals c.args.program.now.functions c.args.named.now c.from_vec.result are
    c.in_ok-functions.ensures.fit c.in_ok-functions.ensures.accepted in
    subst (λ xs. Keeps (g.P1.In.Language.run c.args.program.now) (g.P4.Out.Language.run (record { globals = xs; functions = c.from_vec.result }))) (sym globals) keeps

pub returns-in_err-functions-clause-whole : goal.returns-in_err-functions-clause-whole
returns-in_err-functions-clause-whole g c names chained =
    let p = err_from_is_err_and c.from_residual-in_err-functions.result c.from_residual-in_err-functions.ensures.1 in
    let told = subst (λ fs. Refusal fs c.args.named.now c.in_err-functions.field-0.0) c.as_slice-2.ensures c.in_err-functions.ensures.first in
    rw (p.1, p.2) (only_memory c.args.program.now.functions c.args.named.now c.in_err-functions.field-0.0 chained c.in_err-functions.ensures.err told)
