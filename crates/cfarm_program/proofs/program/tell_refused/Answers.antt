-- Why `tell_refused` meets its clause `told`.
use Rattle.std.proofs.Common.{refl, sym, subst, inl, inr}
use Rattle.cfarm_program.proofs.program.tell_refused.Goals as goal

pub returns-in-Some-clause-told : goal.returns-in-Some-clause-told
returns-in-Some-clause-told g c =
    let text = c.as_str.result.now in
    let may_show = g.T.Wording.may_show c.args.wording.now c.args.fault.now in
    let words = c.in-Some.ensures.kind in
    inr (
      text,
      subst may_show (sym c.as_str.ensures.value) c.in-Some.ensures.text,
      (words, rw c.kind.ensures at c.show.ensures.help, rw c.kind.ensures at c.show.ensures.mistake),
    )

pub returns-in-None-clause-told : goal.returns-in-None-clause-told
returns-in-None-clause-told g c = inl (refl, c.tell_no_memory.ensures.told)
