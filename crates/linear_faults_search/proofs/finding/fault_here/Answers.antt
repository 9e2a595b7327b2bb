-- Why `fault_here` meets its contract.
use Rattle.std.proofs.Common.{◌∙◌}
use Rattle.linear_faults_search.proofs.Found.{calls_are}
use Rattle.linear_faults_search.proofs.finding.fault_here.Goals as goal

pub returns : goal.returns
returns c = λ output.
    let calls = c.from_vec-calls.ensures ∙ c.in_ok-take_calls.ensures ∙ calls_are c.args.run.now.callers in
    λ i. record {
      at = record { function = c.args.run.now.function; place = c.args.run.now.place };
      cause = c.cause_of-cause.ensures output i;
      calls = calls i;
    }
