use Rattle.std.proofs.Common.{arith}
use Rattle.x86.specs.Runs.{stream_of}
use Rattle.x86.proofs.Beginning.{run_shows}
use Rattle.x86.proofs.whole.run.Goals as goal

pub returns : goal.returns
returns c =
    run_shows c.args.limit (stream_of c.args.junk.now 0) c.args.room c.args.program.now c.as_slice-functions.result.now c.as_slice.result.now c.find_main-number.result
    _ _ c.as_slice-functions.ensures c.as_slice.ensures c.find_main-number.ensures (omega arith) c.in_ok-run.ensures c.in_ok-shown.ensures
