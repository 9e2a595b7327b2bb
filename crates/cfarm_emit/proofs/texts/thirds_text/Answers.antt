-- The program of the third outputs has the head of the one before.
use Rattle.std.proofs.Common.{ap, ◌∙◌}
use Rattle.std.proofs.lemmas.Result.{IfOk-weaker}
use Rattle.lang.specs.Form.{program_text}
use Rattle.chains.specs.Chains.{names_of}
use Rattle.ltl.specs.Spelling.{spelling}
use Rattle.cfarm_emit.proofs.Outputs.{thirds_names}
use Rattle.cfarm_emit.proofs.texts.thirds_text.Goals as goal

pub headed_text-requires-clause-head : goal.headed_text-requires-clause-head
headed_text-requires-clause-head c = λ lifetimes.
    let made = c.in-Ok.ensures in
    let head = c.requires.head in
    record {
      globals = ap (λ p. p.globals) made ∙ head.globals;
      names = ap (λ p. names_of p.functions) made ∙ thirds_names c.args.begun.now.functions c.args.offers.now c.requires.many ∙ head.names;
    }

pub returns-in-Ok : goal.returns-in-Ok
returns-in-Ok c = IfOk-weaker c.headed_text.result _ _ (λ bytes text. text ∙ ap (λ p. program_text 3 spelling p) c.in-Ok.ensures) c.headed_text.ensures
