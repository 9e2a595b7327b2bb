use Rattle.linear_run_calls.proofs.FrameWords.{registers_lost, slots_kept}
use Rattle.linear_run_calls.proofs.words.lose_registers.Goals as goal

pub returns-clause-registers : goal.returns-clause-registers
returns-clause-registers c = registers_lost c.args.words.now

pub returns-clause-slots : goal.returns-clause-slots
returns-clause-slots c = slots_kept c.args.words.now
