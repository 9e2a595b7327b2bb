-- What keeps the meaning of the translation keeps that of the program.
use Rattle.std.proofs.lemmas.Result.{IfOk-weaker}
use Rattle.cfarm_emit.proofs.forms.program_text.Goals as goal

pub returns : goal.returns
returns c =
    IfOk-weaker c.linked_text.result _ _ (λ bytes is. record { text = is.text; keeps = c.keeps_composes.ensures _ _ _ c.requires.keeps is.keeps }) c.linked_text.ensures
