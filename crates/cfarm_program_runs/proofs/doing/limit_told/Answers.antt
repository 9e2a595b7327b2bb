-- Why `limit_told` meets its contract.
use Rattle.std.specs.Prelude.{string_bytes}
use Rattle.cfarm_explain.specs.Bounds.{limit_text}
use Rattle.cfarm_program_runs.proofs.Bounded.{bound_told}
use Rattle.cfarm_program_runs.proofs.doing.limit_told.Goals as goal

pub returns : goal.returns
returns c =
    bound_told c.stopped_at_limit.result (λ t. t.items) (limit_text c.args.limit) (string_bytes c.as_text.result) c.as_text.ensures c.stopped_at_limit.ensures
