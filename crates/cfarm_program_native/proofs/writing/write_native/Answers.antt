-- Why `write_native` meets its clause `does`.
use Rattle.std.specs.Prelude.{option_copied}
use Rattle.std.proofs.Common.{refl, ap, sym, ◌∙◌}
use Rattle.cfarm_files.proofs.Uses.{uses_none}
use Rattle.cfarm_program_native.proofs.Placing.{keeps_same}
use Rattle.cfarm_program_native.proofs.writing.write_native.Goals as goal

pub returns-in-Some-clause-does : goal.returns-in-Some-clause-does
returns-in-Some-clause-does g c =
    let it = rw c.form_of-form.ensures at c.put_native.ensures.does in
    let place = ap option_copied (sym c.in-Some.is) ∙ c.file_of.ensures in
    (it.0, (c.put_native.ensures.unused, rw (sym place) (it.1, refl)), it.2)

pub returns-in-None-clause-does : goal.returns-in-None-clause-does
returns-in-None-clause-does g c =
    let it = rw c.form_of-form.ensures at c.print_native.ensures.does in
    let place = ap option_copied (sym c.in-None.is) ∙ c.file_of.ensures in
    (it.0, (uses_none (g.F.Files.used c.args.files.now), rw (sym place) (keeps_same _, it.1)), it.2)
