use Rattle.std.proofs.Common.{◌≡◌, ◌+◌, ◌-◌, ◌<◌, suc, arith, length, true, sym, ap, ◌∙◌, reverse}
use Rattle.std.specs.Option.{is_some}
use Rattle.x86_state.specs.Cells.{word_at}
use Rattle.x86_state.proofs.Reversed.{keeps_there}
use Rattle.x86_state.proofs.stack.Stack.keep.Goals as goal

pub returns-then-there : goal.returns-then-there
returns-then-there c =
    let items = c.self.inside.cells.items in
    let is : reverse items ≡ c.args.self.now = c.self.view_is in
    let there : is_some (word_at (reverse items) c.args.cell) ≡ true =
    ap (λ cells. is_some (word_at cells c.args.cell)) is ∙ ap is_some (sym c.word.ensures) ∙ sym c.if-there.ensures in
    let far : c.args.cell < length items → c.len.result - 1 - c.from.result + suc c.args.cell ≡ length items = λ within. omega arith in
    rw (← is) (keeps_there items c.args.cell (c.len.result - 1 - c.from.result) c.args.word c.is_some-there.result far there c.if-there.true)
