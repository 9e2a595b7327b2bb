-- Why `is_beside` meets its contract.
use Rattle.std.proofs.Common.{codes, sym, ◌∙◌, arith}
use Rattle.cfarm_options.proofs.Beside.{by_the_front, by_what_is_behind, joined}
use Rattle.cfarm_options.proofs.names.is_beside.Goals as goal

pub returns-then-is_name : goal.returns-then-is_name
returns-then-is_name c =
    let text = c.args.text.now in
    let parts = c.split_at.result in
    let whole = joined _ text parts.0.now parts.1.now c.split_at.ensures.front c.split_at.ensures.back in
    c.is_name-then-is_name.ensures
    ∙ by_what_is_behind text c.args.name.now (codes ".new") parts.0.now parts.1.now whole (sym c.is_name.ensures ∙ c.if-is_name.true)

pub returns-else-is_name : goal.returns-else-is_name
returns-else-is_name c =
    let text = c.args.text.now in
    let parts = c.split_at.result in
    let whole = joined _ text parts.0.now parts.1.now c.split_at.ensures.front c.split_at.ensures.back in
    c.if-is_name.false
    ∙ sym (by_the_front text c.args.name.now (codes ".new") parts.0.now parts.1.now whole
    (omega (arith, c.split_at.ensures.back_len, c.if-text-lt4.false)) (sym c.is_name.ensures ∙ c.if-is_name.false))
