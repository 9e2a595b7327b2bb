-- Why `number_in` meets its contract.
use Rattle.std.proofs.Common.{sym, subst, ◌∙◌, rules}
use Rattle.std.specs.Str.{IsUtf8}
use Rattle.std.proofs.lemmas.Fmt.{parse-decimal}
use Rattle.cfarm_sim_lines.proofs.Decimals.{decimal_is_text}
use Rattle.cfarm_sim_lines.proofs.parts.number_in.Goals as goal

pub returns-in_default : goal.returns-in_default
returns-in_default c = λ n h e. absurd (c.in_default.ensures.cases.0 (subst IsUtf8 (sym e) (decimal_is_text n h)))

pub returns : goal.returns
returns c = λ n h e.
    let number = parse-decimal 64 n _ c.parse.result h h (c.in-Ok.ensures.cases.0 ∙ e) c.parse.ensures.value.0 in
    search rules
