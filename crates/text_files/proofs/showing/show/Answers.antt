-- Why `show` meets its clauses `shown` and `refused`.
use Rattle.std.proofs.Common.{subst}
use Rattle.std.specs.Io.KnownBytes.{Appends}
use Rattle.cfarm_output.specs.Begun.{IsBegun}
use Rattle.text_files.proofs.showing.show.Goals as goal

pub returns-in-Ok-print_whole-clause-shown : goal.returns-in-Ok-print_whole-clause-shown
returns-in-Ok-print_whole-clause-shown g c =
    let before = g.W.Write.contents c.args.out.now in
    let after = g.W.Write.contents c.print_whole.new.out in
    (c.in-Ok.text.items, c.in-Ok.ensures.ok, subst (λ t. Appends before after t) c.deref.ensures.value c.in-Ok-print_whole.ensures.printed)

pub returns-clause-refused : goal.returns-clause-refused
returns-clause-refused g c =
    let before = g.W.Write.contents c.args.out.now in
    let after = g.W.Write.contents c.print_whole.new.out in
    (c.in-Ok.text.items, c.in-Ok.ensures.ok, subst (λ t. IsBegun t before after) c.deref.ensures.value c.in-Err-print_whole.ensures.begun)
