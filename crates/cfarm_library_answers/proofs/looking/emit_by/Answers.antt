-- The form of a number, or none.
use Rattle.std.proofs.Common.{None, codes, refl, subst}
use Rattle.cfarm_library_answers.specs.Answered.{Gives}
use Rattle.cfarm_library_answers.specs.Outcomes.{FormedWhere, IsKept}
use Rattle.cfarm_library_answers.proofs.Joined.{gives_or, told_is}
use Rattle.cfarm_library_answers.proofs.looking.emit_by.Goals as goal

pub returns-in-Some : goal.returns-in-Some
returns-in-Some c = subst (λ f. Gives (FormedWhere f c.args.text.now c.args.seed) c.emit.result) c.in-Some.ensures c.emit.ensures

pub returns-in-None : goal.returns-in-None
returns-in-None c =
    let told = told_is IsKept c.new.result.items c.new.result.items c.new.ensures.items refl 2 (codes "form") in
    subst (λ f. Gives (FormedWhere f c.args.text.now c.args.seed) c.told.result) c.in-None.ensures
    (gives_or (FormedWhere None c.args.text.now c.args.seed) _ c.told.result 2 _ _ refl told c.told.ensures)
