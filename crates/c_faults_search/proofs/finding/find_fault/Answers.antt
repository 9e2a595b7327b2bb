-- Where there is no main of that kind, and where it runs.
use Rattle.std.proofs.Common.{◌≡◌, List, Option, Some, ap, ◌∙◌}
use Rattle.std.specs.Prelude.{IfOk}
use Rattle.c_checker_rules.specs.Checked.{Contents}
use Rattle.c_faults.specs.declared.cause.Cause.TheVariants.{Malformed}
use Rattle.c_faults.specs.declared.fault.Fault.{Fault}
use Rattle.c_faults.specs.declared.fault.Site.{Site}
use Rattle.c_faults_search.proofs.Whole.{main_runs, no_main}
use Rattle.c_faults_search.proofs.finding.find_fault.Goals as goal

pub returns-in-None : goal.returns-in-None
returns-in-None c =
    let parts : Contents = record { globals = c.globals-globals.result.now; functions = c.functions-functions.result.now; main = c.main-main.result } in
    let same : parts ≡ c.args.program.now =
    ap (λ l. record { globals = l; functions = c.functions-functions.result.now; main = c.main-main.result }) c.globals-globals.ensures
    ∙ ap (λ l. record { globals = c.args.program.now.globals; functions = l; main = c.main-main.result }) c.functions-functions.ensures
    ∙ ap (λ k. record { globals = c.args.program.now.globals; functions = c.args.program.now.functions; main = k }) c.main-main.ensures in
    ap (λ (l : List Site). Some (record { cause = Malformed; at = record { function = c.main-main.result; place = 0 }; callers = l })) (c.from_vec-callers.ensures ∙ c.new.ensures.items)
    ∙ no_main c.args.program.now parts c.args.places.now c.args.bound same c.in-None.ensures.blamed

pub returns-in_ok-tracer-in-Some : goal.returns-in_ok-tracer-in-Some
returns-in_ok-tracer-in-Some c =
    let parts : Contents = record { globals = c.globals-globals.result.now; functions = c.functions-functions.result.now; main = c.main-main.result } in
    let same : parts ≡ c.args.program.now =
    ap (λ l. record { globals = l; functions = c.functions-functions.result.now; main = c.main-main.result }) c.globals-globals.ensures
    ∙ ap (λ l. record { globals = c.args.program.now.globals; functions = l; main = c.main-main.result }) c.functions-functions.ensures
    ∙ ap (λ k. record { globals = c.args.program.now.globals; functions = c.args.program.now.functions; main = k }) c.main-main.ensures in
    let runs = main_runs c.args.program.now parts c.in-Some.function.now c.args.places.now c.args.bound c.in_ok-tracer-in-Some.tracer same
    c.in-Some.ensures.blames c.in-Some.ensures.found c.in_ok-tracer-in-Some.ensures in
    rw runs at c.run.ensures
