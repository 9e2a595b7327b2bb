use Rattle.std.proofs.Common.{sym, ◌∙◌}
use Rattle.rtl_passes_filled.proofs.Rising.{among_first}
use Rattle.rtl_passes_facts.proofs.walk.begin_with.Goals as goal

pub returns-in-len1-up : goal.returns-in-len1-up
returns-in-len1-up g c =
    let first = among_first g.R.Rules.rules.rank c.args.facts.now c.args.fact.now c.first-item.result c.in-len1-up.len_at_least c.requires in
    (λ yes. first.0 (sym c.first-item.is ∙ c.is_one.ensures.0 yes), λ among. c.is_one.ensures.1 (c.first-item.is ∙ first.1 among))
