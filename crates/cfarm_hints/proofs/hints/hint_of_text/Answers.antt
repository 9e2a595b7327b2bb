-- Why `hint_of_text` meets its contract.
use Rattle.std.proofs.Common.{subst, sym, ◌∙◌}
use Rattle.std.specs.String.{string_bytes}
use Rattle.c_hints.specs.Hints.{IsHint}
use Rattle.c_texts.specs.Refusals.{number_of}
use Rattle.cfarm_hints.specs.Faults.{IsHintWhere}
use Rattle.cfarm_hints.proofs.hints.hint_of_text.Goals as goal

pub returns-in-Some : goal.returns-in-Some
returns-in-Some c =
    let text = c.args.text.now in
    let hint = string_bytes c.hint_where.result in
    let here = subst (λ n. IsHint text c.in-Some.at n hint) c.number.ensures c.hint_where.ensures in
    subst (λ o. IsHintWhere text (number_of c.args.fault) o hint) (sym (sym c.offset.ensures ∙ c.in-Some.is)) here
