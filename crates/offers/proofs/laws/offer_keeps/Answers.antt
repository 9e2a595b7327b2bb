-- A program of one function is accepted where the function is.
use Rattle.std.proofs.Common.{[], refl}
use Rattle.std.proofs.lemmas.List.Elements.{All-nil, All-cons}
use Rattle.offers.specs.OneFunction.{program_of_one}
use Rattle.offers.proofs.laws.offer_keeps.Goals as goal

pub returns : goal.returns
returns g c globals name =
    let offer = c.args.offer.now in
    let v = c.validated.ensures in
    g.met.P.Pass.sound (program_of_one globals name offer.input) (program_of_one globals name offer.output)
    (All-cons (λ named. g.P.In.Language.fits named.function) (record { name = name; function = offer.input }) [] v.fits.input (All-nil _))
    (All-cons (λ named. g.P.Out.Language.fits named.function) (record { name = name; function = offer.output }) [] v.fits.output (All-nil _))
    (record { globals = refl; functions = ((refl, (offer.certificate, v.accepted)), tt) })
