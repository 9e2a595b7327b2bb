-- Why `settle` meets its clauses `settled` and `refused`.
use Rattle.std.specs.Prelude.{IfSome}
use Rattle.std.proofs.Common.{refl, subst, sym}
use Rattle.std.proofs.lemmas.Result.{err_from_is_err_and}
use Rattle.cfarm_settle.specs.LaidOut.{AgreeOn}
use Rattle.cfarm_settle.proofs.AgreedLemmas.{have_settled, refused_unprinted}
use Rattle.cfarm_settle.proofs.ReadingLemmas.{refused_of}
use Rattle.cfarm_settle.proofs.settling.settle.Goals as goal

-- What is printed is the code that the nodes of the seats have agreed on.
pub returns-in-Ok-clause-settled : goal.returns-in-Ok-clause-settled
returns-in-Ok-clause-settled g c =
    let function = c.in_ok-function.function in
    let seats = c.in-Some.seats in
    let agreed : AgreeOn seats function c.in-Some.code.items =
    subst (λ o. IfSome o (λ it. AgreeOn it.1 function it.0.items)) c.in-Some.is c.in_ok-code.ensures in
    have_settled c.args.bytes.now c.as_slice.result.now seats function c.in_ok-function.ensures.read
    (subst (λ l. AgreeOn seats function l) (sym c.as_slice.ensures.value) agreed) _ _ c.in-Ok.ensures.printed

-- It was not printed, or not all of it.
pub returns-clause-refused : goal.returns-clause-refused
returns-clause-refused g c =
    let function = c.in_ok-function.function in
    let seats = c.in-Some.seats in
    let agreed : AgreeOn seats function c.in-Some.code.items =
    subst (λ o. IfSome o (λ it. AgreeOn it.1 function it.0.items)) c.in-Some.is c.in_ok-code.ensures in
    refused_unprinted c.args.bytes.now c.as_slice.result.now seats function c.in_ok-function.ensures.read
    (subst (λ l. AgreeOn seats function l) (sym c.as_slice.ensures.value) agreed) c.in-Err.fault _ _ c.in-Err.ensures.refused

pub returns-in_err-function-clause-refused : goal.returns-in_err-function-clause-refused
returns-in_err-function-clause-refused g c =
    let p = err_from_is_err_and c.from_residual.result c.from_residual.ensures.1 in
    rw (p.1, p.2) (refused_of c.args.bytes.now c.in_err-function.field-0.0 _ _ c.in_err-function.ensures.refused c.in_err-function.ensures.behind refl)
