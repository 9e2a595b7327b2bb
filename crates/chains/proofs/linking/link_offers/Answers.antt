-- What is linked, and what is refused, in the words of the offers.
use Rattle.std.proofs.Common.{◌≡◌, length, sym, ap, subst, ◌∙◌, arith}
use Rattle.std.proofs.lemmas.Result.{err_from_is_err_and}
use Rattle.chains.specs.Lent.{AreBeside}
use Rattle.chains.proofs.Beside.{names_are, chained, all_go_on, all_ends}
use Rattle.chains.proofs.Broken.{unlinked}
use Rattle.chains.proofs.GoingOn.{as_many}
use Rattle.chains.proofs.linking.link_offers.Goals as goal

pub returns-then-len-offers-clause-whole : goal.returns-then-len-offers-clause-whole
returns-then-len-offers-clause-whole c = λ all.
    let same : length c.args.program.now.functions ≡ length c.args.offers.now = as_many c.args.program.now.functions c.args.offers.now all in
    let never : ⊥ = grind (arith, same) in absurd never

pub returns-in_err-made-clause-refused : goal.returns-in_err-made-clause-refused
returns-in_err-made-clause-refused c =
    let fs = c.args.program.now.functions in
    let at = subst (λ xs. AreBeside xs c.args.offers.now c.in_ok-named.named.items) c.as_slice.ensures c.in_ok-named.ensures in
    let are = subst (λ ns. AreBeside fs c.args.offers.now ns) (sym c.deref.ensures.value) at in
    let p = err_from_is_err_and c.from_residual-in_err-made.result c.from_residual-in_err-made.ensures.1 in
    rw (p.1, p.2) (unlinked fs c.args.offers.now c.deref.result.now c.in_err-made.field-0.0 are c.in_err-made.ensures.refused)

pub returns-in_err-made-clause-whole : goal.returns-in_err-made-clause-whole
returns-in_err-made-clause-whole c = λ all.
    let fs = c.args.program.now.functions in
    let at = subst (λ xs. AreBeside xs c.args.offers.now c.in_ok-named.named.items) c.as_slice.ensures c.in_ok-named.ensures in
    let are = subst (λ ns. AreBeside fs c.args.offers.now ns) (sym c.deref.ensures.value) at in
    let memory = c.in_err-made.ensures.whole (names_are fs c.args.offers.now c.deref.result.now are) (chained fs c.args.offers.now c.deref.result.now are all) in
    let p = err_from_is_err_and c.from_residual-in_err-made.result c.from_residual-in_err-made.ensures.1 in
    rw (p.1, p.2) memory

pub returns-clause-ok : goal.returns-clause-ok
returns-clause-ok c =
    let fs = c.args.program.now.functions in
    let at = subst (λ xs. AreBeside xs c.args.offers.now c.in_ok-named.named.items) c.as_slice.ensures c.in_ok-named.ensures in
    let are = subst (λ ns. AreBeside fs c.args.offers.now ns) (sym c.deref.ensures.value) at in
    let ends = all_ends fs c.args.offers.now c.deref.result.now are in
    c.in_ok-made.ensures.ok ∙ (λ i. record { globals = c.args.program.now.globals; functions = ends i })

pub returns-clause-chained : goal.returns-clause-chained
returns-clause-chained c =
    let fs = c.args.program.now.functions in
    let at = subst (λ xs. AreBeside xs c.args.offers.now c.in_ok-named.named.items) c.as_slice.ensures c.in_ok-named.ensures in
    let are = subst (λ ns. AreBeside fs c.args.offers.now ns) (sym c.deref.ensures.value) at in
    all_go_on fs c.args.offers.now c.deref.result.now are c.in_ok-made.ensures.chained
