-- Why the cause of a linked program's run that went wrong is what `explain_linked` tells of it.
use Rattle.std.proofs.Common.{◌≡◌, ap, inr, sym, ◌∙◌, string_bytes}
use Rattle.std.specs.Prelude.{Some}
use Rattle.cfarm_explain_linked.specs.Explained.{told_of}
use Rattle.cfarm_program_runs.proofs.doing.linked_cause.Goals as goal

pub returns-in-Ok-to_string : goal.returns-in-Ok-to_string
returns-in-Ok-to_string c =
    let p = c.in-Ok.program in
    let same : string_bytes c.in-Ok-to_string.cause ≡ c.in-Ok-Some.lines =
    c.in-Ok-to_string.ensures.ok ∙ (c.in-Ok-from_utf8.ensures.cases.0 ∙ c.as_slice.ensures) in
    let told : told_of c.args.path.now p c.args.limit ≡ Some c.in-Ok-Some.lines =
    ap (λ path. told_of path p c.args.limit) (sym c.as_bytes.ensures.value) ∙ sym c.in-Ok-Some.ensures ∙ c.in-Ok-Some.field-0-is in
    inr (p, c.in-Ok.ensures.ok, told ∙ ap (λ text. Some text) (sym same))
