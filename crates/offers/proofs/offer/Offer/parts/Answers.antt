-- The text of parts is a front of the bytes with nothing behind it.
use Rattle.std.proofs.Common.{◌≡◌, [], ◌++◌, sym, ap, ◌∙◌, append-nil, arith}
use Rattle.std.proofs.lemmas.Bool.Decides.{nat_tests}
use Rattle.std.proofs.lemmas.List.{nil_from_length}
use Rattle.std.proofs.lemmas.Result.{err_from_is_err_and}
use Rattle.offers.specs.Text.{text_of}
use Rattle.offers.proofs.offer.Offer.parts.Goals as goal

pub returns-in_err-parts-clause-refused : goal.returns-in_err-parts-clause-refused
returns-in_err-parts-clause-refused g c =
    let p = err_from_is_err_and c.from_residual.result c.from_residual.ensures.1 in
    rw (p.1, p.2) (λ memory parts fits e. c.in_err-parts.ensures.refused memory parts [] fits (e ∙ sym (append-nil _)))

pub returns-then-not-is_empty-clause-refused : goal.returns-then-not-is_empty-clause-refused
returns-then-not-is_empty-clause-refused g c _ parts fits e =
    let nothing : c.in_ok-parts.behind.now ≡ [] = (c.in_ok-parts.ensures.only parts [] fits (e ∙ sym (append-nil _))).1 in
    grind (arith, nat_tests)

pub returns-clause-spelled : goal.returns-clause-spelled
returns-clause-spelled g c =
    let nothing : c.in_ok-parts.behind.now ≡ [] = nil_from_length _ (grind (arith, nat_tests)) in
    c.in_ok-parts.ensures.front ∙ ap (λ behind. text_of g.P.In.Language g.P.Out.Language g.P.Pass c.in_ok-parts.parts ++ behind) nothing ∙ append-nil _

pub returns-clause-only : goal.returns-clause-only
returns-clause-only g c parts fits e = (c.in_ok-parts.ensures.only parts [] fits (e ∙ sym (append-nil _))).0
