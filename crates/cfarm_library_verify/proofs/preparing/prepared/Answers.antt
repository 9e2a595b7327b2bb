-- What is made ready is the source of the text.
use Rattle.cfarm_library_verify.proofs.preparing.prepared.Goals as goal

pub returns-in-Ok-clause-source : goal.returns-in-Ok-clause-source
returns-in-Ok-clause-source c =
    let is = c.in-Ok.ensures in
    record { accepted = is.accepted; translated = is.translated; keeps = is.keeps; digest = is.digest; fits = is.fits; only = is.only }
