-- It holds of each part, by the laws of the two languages and of the pass.
use Rattle.offers.proofs.OneText.{same_text}
use Rattle.offers.proofs.laws.one_text.Goals as goal

pub returns : goal.returns
returns g c =
    same_text g.P.Pass.NUMBER g.P.In.Language.fits g.P.Out.Language.fits g.P.Pass.cert_fits g.P.In.Language.spelling g.P.Out.Language.spelling g.P.Pass.cert_spelling
    g.met.P.In.Language.one_spelling g.met.P.Out.Language.one_spelling g.met.P.Pass.one_cert
