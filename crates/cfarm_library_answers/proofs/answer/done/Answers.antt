-- Nothing stands behind what was written.
use Rattle.std.proofs.Common.{length, refl, sym, ap}
use Rattle.std.proofs.lemmas.List.{append-nil}
use Rattle.cfarm_library_answers.proofs.answer.done.Goals as goal

pub returns : goal.returns
returns c = (refl, sym (append-nil c.args.output.items), ap length c.as_slice.ensures.value)
