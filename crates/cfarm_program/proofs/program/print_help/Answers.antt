-- Why `print_help` meets its clause `printed`.
use Rattle.std.specs.Prelude.{codes}
use Rattle.std.proofs.Common.{refl, inl, inr, subst}
use Rattle.std.specs.Io.KnownBytes.{Appends}
use Rattle.cfarm_output.specs.Begun.{IsBegun}
use Rattle.cfarm_program.proofs.program.print_help.Goals as goal

pub returns-in-Ok-clause-printed : goal.returns-in-Ok-clause-printed
returns-in-Ok-clause-printed g c =
    let before = g.W.Write.contents c.args.out.now.taker in
    let after = g.W.Write.contents c.print_whole.new.out.taker in
    inl (refl, subst (λ bytes. Appends before after bytes) c.as_bytes.ensures.value c.in-Ok.ensures.printed, refl)

pub returns-in-Err-clause-printed : goal.returns-in-Err-clause-printed
returns-in-Err-clause-printed g c =
    let before = g.W.Write.contents c.args.out.now.taker in
    let after = g.W.Write.contents c.print_whole.new.out.taker in
    inr (subst (λ bytes. IsBegun bytes before after) c.as_bytes.ensures.value c.in-Err.ensures.begun, c.tell.ensures.told (codes "write 701") refl)
