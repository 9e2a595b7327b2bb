-- What the program is lowered to has its head.
use Rattle.std.proofs.Common.{ap, ◌∙◌, subst, map}
use Rattle.std.proofs.lemmas.Result.{IfOk-weaker}
use Rattle.lang.specs.Form.{program_text}
use Rattle.lang_base.specs.Keeps.{Keeps}
use Rattle.c_program.specs.Meaning.{crun}
use Rattle.c_checker_rules.specs.Checked.{program_tree}
use Rattle.cminor_form.specs.Spelling.{spelling}
use Rattle.cminor_syntax.specs.Meaning.{run}
use Rattle.cfarm_emit.proofs.forms.cminor_text.Goals as goal

pub headed_text-requires-clause-head : goal.headed_text-requires-clause-head
headed_text-requires-clause-head c = λ lifetimes.
    let same = c.in-Ok.ensures.same in
    record { globals = ap (λ p. p.globals) same; names = ap (λ p. map (λ f. f.name) p.functions) same }

pub returns-in-Ok : goal.returns-in-Ok
returns-in-Ok c =
    let tree = program_tree c.args.program.now in
    let same = c.in-Ok.ensures.same in
    let keeps = subst (λ p. Keeps (crun tree) (run p)) same c.in-Ok.ensures.keeps in
    IfOk-weaker c.headed_text.result _ _ (λ bytes text. record { text = text ∙ ap (λ p. program_text 1 spelling p) same; keeps = keeps }) c.headed_text.ensures
