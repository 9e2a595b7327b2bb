-- Why `sources_of` meets its contract, and its loop over `step` keeps the invariant.
use Rattle.std.proofs.Common.{◌≤◌, length, arith}
use Rattle.alloc_check_blocks.proofs.Sources.{noted, all_noted}
use Rattle.alloc_check_blocks.proofs.origins.sources_of.Goals as goal

pub loop-step-preserved : goal.loop-step-preserved
loop-step-preserved c =
    noted c.loop-step.sources c.insert.new.self c.args.moves.now c.loop-step.step-index _ c.loop-step-test.true c.loop-step.invariant (rw (c.key_of.ensures, c.source_of-source.ensures) at c.in_ok-insert.ensures.updates)

pub returns : goal.returns
returns c = all_noted c.loop-step.sources c.args.moves.now c.loop-step.step-index (omega (arith, c.loop-step-test.false)) c.loop-step.invariant
