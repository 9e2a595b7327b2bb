-- Why `depth_told` meets its contract.
use Rattle.std.specs.Prelude.{string_bytes}
use Rattle.cfarm_explain.specs.Bounds.{depth_text}
use Rattle.cfarm_program_runs.proofs.Bounded.{bound_told}
use Rattle.cfarm_program_runs.proofs.doing.depth_told.Goals as goal

pub returns : goal.returns
returns c =
    bound_told c.stopped_at_depth.result (λ t. t.items) (depth_text c.args.depth) (string_bytes c.as_text.result) c.as_text.ensures c.stopped_at_depth.ensures
