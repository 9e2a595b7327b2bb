-- Why `read` meets its clause `keeps`.
use Rattle.std.proofs.Common.{◌+◌, sym, ap, ◌∙◌}
use Rattle.lang.proofs.Forms.{cells_push}
use Rattle.lang.proofs.globals.GlobalsReadOne.read.Goals as goal

pub returns-clause-keeps : goal.returns-clause-keeps
returns-clause-keeps c = (ap (λ n. n + c.in_ok-global.global.cells) c.requires.0 ∙ sym (cells_push c.args._before.now c.in_ok-global.global), c.in_ok-global.ensures.few)
