-- Why `unchanged` meets its clause `accepted`.
use Rattle.rtl_passes_filled.proofs.Marked.{AreCarried}
use Rattle.rtl_passes_filled.proofs.Shapes.{none_accepted}
use Rattle.rtl_passes_facts.proofs.base.unchanged.Goals as goal

pub returns-clause-accepted : goal.returns-clause-accepted
returns-clause-accepted g c =
    let carried : AreCarried g.R.Rules.rules = record { along = g.met.R.Rules.along; known = λ i before fact rise either. (g.met.R.Rules.known i before fact rise).1 either } in
    rw (c.in_ok-output.ensures, c.from_vec.ensures, c.new.ensures.items) (none_accepted g.R.Rules.rules carried c.args.input.now)
