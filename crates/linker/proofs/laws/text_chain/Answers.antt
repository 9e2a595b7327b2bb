-- By the laws of the languages: a text is that of one function.
use Rattle.linker.proofs.SameTexts.{chained_by_texts}
use Rattle.linker.proofs.laws.text_chain.Goals as goal

pub returns : goal.returns
returns g c =
    chained_by_texts g.P1.In.Language.fits g.P1.Out.Language.fits g.P2.Out.Language.fits g.P3.Out.Language.fits g.P4.Out.Language.fits
    g.P1.In.Language.spelling g.P1.Out.Language.spelling g.P2.Out.Language.spelling g.P3.Out.Language.spelling
    g.met.P1.In.Language.one_spelling g.met.P1.Out.Language.one_spelling g.met.P2.Out.Language.one_spelling g.met.P3.Out.Language.one_spelling
    c.args.function.now c.args.chain.now c.known.ensures c.validated.ensures.fit
