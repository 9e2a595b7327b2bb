use Rattle.worked_farm.proofs.stranger.whole.Goals as goal

pub returns-in-Some-turned-clause-third : goal.returns-in-Some-turned-clause-third
returns-in-Some-turned-clause-third g c =
    c.in-Some-turned.ensures.third c.in-Ok-open_three.farm.source.digest c.in-Ok-open_three.ensures.third
