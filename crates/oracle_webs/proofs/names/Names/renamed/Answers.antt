-- Why `renamed` meets its contract.
use Rattle.std.proofs.Common.{List, sym, subst, ℕ}
use Rattle.rtl_language.specs.Function as rtl_function
use Rattle.oracle_webs.proofs.names.Names.renamed.Goals as goal

pub returns-in-Do : goal.returns-in-Do
returns-in-Do c = λ registers nodes fit.
    let parts = rw c.in-Do.is at fit in
    (c.act.ensures registers parts.0, parts.1)

pub returns-in-Call : goal.returns-in-Call
returns-in-Call c = λ registers nodes fit.
    let parts = rw c.in-Call.is at fit in
    let call = subst (λ (names : List ℕ). rtl_function.CallFits registers c.in-Call.function names c.in-Call.target) (sym c.as_slice.ensures) parts.0 in
    c.call.ensures registers nodes call parts.1

pub returns-in-Branch : goal.returns-in-Branch
returns-in-Branch c = λ registers nodes fit.
    let parts = rw c.in-Branch.is at fit in
    (c.test.ensures registers parts.0, parts.1, parts.2)

pub returns-in-Return : goal.returns-in-Return
returns-in-Return c = λ registers nodes fit. c.value.ensures
