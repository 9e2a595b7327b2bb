-- The answer, or a beginning of it.
use Rattle.std.proofs.Common.{subst, ◌∙◌}
use Rattle.std.specs.Io.KnownBytes.{Appends}
use Rattle.cfarm_output.specs.Begun.{IsBegun}
use Rattle.cfarm_library_verify.proofs.Answered.{unprinted}
use Rattle.cfarm_library_verify.proofs.verifying.verify.Goals as goal

pub returns-in-Err-clause-only : goal.returns-in-Err-clause-only
returns-in-Err-clause-only g c = c.in-Err.ensures.only

pub returns-in-Ok-print_whole-clause-verified : goal.returns-in-Ok-print_whole-clause-verified
returns-in-Ok-print_whole-clause-verified g c =
    let answer = c.in-Ok.ensures.answer in
    let before = g.W.Write.contents c.args.out.now in
    let after = g.W.Write.contents c.print_whole.new.out in
    (answer.0, answer.1, subst (λ l. Appends before after l) (c.as_bytes.ensures.value ∙ answer.2) c.in-Ok-print_whole.ensures.printed)

pub returns-clause-held : goal.returns-clause-held
returns-clause-held g c =
    let answer = c.in-Ok.ensures.answer in
    let before = g.W.Write.contents c.args.out.now in
    let after = g.W.Write.contents c.print_whole.new.out in
    (answer.0, answer.1, subst (λ l. IsBegun l before after) (c.as_bytes.ensures.value ∙ answer.2) c.in-Err-print_whole.ensures.begun)

pub returns-in-Err-clause-held : goal.returns-in-Err-clause-held
returns-in-Err-clause-held g c =
    unprinted c.args.text.now c.args.program.now c.args.bundle.now (g.W.Write.contents c.args.out.now) c.in-Err.fault c.in-Err.ensures.refused
