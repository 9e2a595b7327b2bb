use Rattle.std.proofs.Common.{◌≡◌, ◌%◌, None, ap, ◌∙◌}
use Rattle.x86_syntax.specs.declared.register.Register.TheVariants.{Edi}
use Rattle.x86_state.specs.State.{word, with_flags}
use Rattle.x86.specs.Printing.{with_byte, all_scrambled, printed}
use Rattle.x86.specs.Runs.{state_of}
use Rattle.x86.proofs.Steps.{goes_same}
use Rattle.x86.proofs.drawing.print.Goals as goal

pub returns : goal.returns
returns c =
    let junk = c.args.junk.now in
    let s = state_of junk c.args.run.now in
    let t = state_of junk c.scramble_all.new.run in
    let e : t ≡ all_scrambled (with_byte (word Edi s % 256) s) =
    c.scramble_all.ensures.state ∙ ap all_scrambled (c.in_ok-print_low_byte.ensures.state junk ∙ ap (λ w. with_byte (w % 256) s) c.word-edi.ensures) in
    goes_same (with_flags None t) (printed s) s s c.go_on.result (state_of junk c.go_on.new.run) (ap (with_flags None) e) (c.go_on.ensures junk)
