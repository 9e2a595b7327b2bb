-- The linked program has the head of the one before.
use Rattle.std.proofs.Common.{ap, ◌∙◌, subst}
use Rattle.std.proofs.lemmas.Result.{IfOk-weaker}
use Rattle.lang.specs.Form.{program_text}
use Rattle.lang_base.specs.Keeps.{Keeps}
use Rattle.linear_language.specs.Meaning.{run}
use Rattle.linear_language.specs.Spelling.{spelling}
use Rattle.rtl_language.specs.Meaning as rtl
use Rattle.cfarm_emit.proofs.texts.linked_text.Goals as goal

pub headed_text-requires-clause-head : goal.headed_text-requires-clause-head
headed_text-requires-clause-head c = λ lifetimes.
    let made = c.in-Ok.ensures in
    let head = c.requires.head in
    record { globals = ap (λ p. p.globals) made.is ∙ head.globals; names = made.names ∙ head.names }

pub returns-in-Ok : goal.returns-in-Ok
returns-in-Ok c =
    let is = c.in-Ok.ensures.is in
    let keeps = subst (λ p. Keeps (rtl.run c.args.begun.now) (run p)) is c.in-Ok.ensures.keeps in
    IfOk-weaker c.headed_text.result _ _ (λ bytes text. record { text = text ∙ ap (λ p. program_text 4 spelling p) is; keeps = keeps }) c.headed_text.ensures
