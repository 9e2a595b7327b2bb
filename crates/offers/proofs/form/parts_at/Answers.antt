-- The text of the parts is that of the number, the input, the output and the certificate, one behind the other.
use Rattle.std.proofs.Common.{◌≡◌}
use Rattle.std.proofs.lemmas.Result.{err_from_is_err_and}
use Rattle.offers.proofs.PartFronts.{fronts_make_text, no_input_no_text, no_output_no_text, no_certificate_no_text, only_parts}
use Rattle.offers.proofs.form.parts_at.Goals as goal

pub returns-clause-only : goal.returns-clause-only
returns-clause-only g c =
    only_parts g.P.Pass.NUMBER g.P.In.Language.fits g.P.Out.Language.fits g.P.Pass.cert_fits g.P.In.Language.spelling g.P.Out.Language.spelling g.P.Pass.cert_spelling
    c.args.bytes.now c.in_ok-behind.behind.now c.in_ok-input.behind.now c.in_ok-input.input (rw c.NUMBER.ensures at c.in_ok-behind.ensures.front) c.in_ok-input.ensures.only
    c.in_ok-output.behind.now c.in_ok-output.output c.in_ok-output.ensures.only
    c.in_ok-certificate.certificate c.in_ok-certificate.behind.now c.in_ok-certificate.ensures.only

pub returns-clause-front : goal.returns-clause-front
returns-clause-front g c =
    fronts_make_text g.P.Pass.NUMBER g.P.In.Language.fits g.P.Out.Language.fits g.P.Pass.cert_fits g.P.In.Language.spelling g.P.Out.Language.spelling g.P.Pass.cert_spelling
    c.in_ok-input.input c.in_ok-output.output c.in_ok-certificate.certificate
    c.args.bytes.now c.in_ok-behind.behind.now c.in_ok-input.behind.now c.in_ok-output.behind.now c.in_ok-certificate.behind.now
    (rw c.NUMBER.ensures at c.in_ok-behind.ensures.front) c.in_ok-input.ensures.front c.in_ok-output.ensures.front c.in_ok-certificate.ensures.front

pub returns-in_err-behind-clause-refused : goal.returns-in_err-behind-clause-refused
returns-in_err-behind-clause-refused g c =
    let p = err_from_is_err_and c.from_residual.result c.from_residual.ensures.1 in
    rw (p.1, p.2) (λ memory parts rest fits e. (rw c.NUMBER.ensures at c.in_err-behind.ensures.other) _ e)

pub returns-in_err-input-clause-refused : goal.returns-in_err-input-clause-refused
returns-in_err-input-clause-refused g c =
    let p = err_from_is_err_and c.from_residual-in_err-input.result c.from_residual-in_err-input.ensures.1 in
    rw (p.1, p.2) (λ memory.
    no_input_no_text g.P.Pass.NUMBER g.P.In.Language.fits g.P.Out.Language.fits g.P.Pass.cert_fits g.P.In.Language.spelling g.P.Out.Language.spelling g.P.Pass.cert_spelling
    c.args.bytes.now c.in_ok-behind.behind.now (rw c.NUMBER.ensures at c.in_ok-behind.ensures.front) (c.in_err-input.ensures.refused memory))

pub returns-in_err-output-clause-refused : goal.returns-in_err-output-clause-refused
returns-in_err-output-clause-refused g c =
    let p = err_from_is_err_and c.from_residual-in_err-output.result c.from_residual-in_err-output.ensures.1 in
    rw (p.1, p.2) (λ memory.
    no_output_no_text g.P.Pass.NUMBER g.P.In.Language.fits g.P.Out.Language.fits g.P.Pass.cert_fits g.P.In.Language.spelling g.P.Out.Language.spelling g.P.Pass.cert_spelling
    c.args.bytes.now c.in_ok-behind.behind.now c.in_ok-input.behind.now c.in_ok-input.input (rw c.NUMBER.ensures at c.in_ok-behind.ensures.front)
    c.in_ok-input.ensures.only (c.in_err-output.ensures.refused memory))

pub returns-in_err-certificate-clause-refused : goal.returns-in_err-certificate-clause-refused
returns-in_err-certificate-clause-refused g c =
    let p = err_from_is_err_and c.from_residual-in_err-certificate.result c.from_residual-in_err-certificate.ensures.1 in
    rw (p.1, p.2) (λ memory.
    no_certificate_no_text g.P.Pass.NUMBER g.P.In.Language.fits g.P.Out.Language.fits g.P.Pass.cert_fits g.P.In.Language.spelling g.P.Out.Language.spelling g.P.Pass.cert_spelling
    c.args.bytes.now c.in_ok-behind.behind.now c.in_ok-input.behind.now c.in_ok-input.input (rw c.NUMBER.ensures at c.in_ok-behind.ensures.front) c.in_ok-input.ensures.only
    c.in_ok-output.behind.now c.in_ok-output.output c.in_ok-output.ensures.only (c.in_err-certificate.ensures.refused memory))
