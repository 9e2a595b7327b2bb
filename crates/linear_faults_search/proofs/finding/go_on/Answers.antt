-- Why `go_on` meets its contract, and its loop over `left` keeps the invariant.
use Rattle.std.proofs.Common.{subst, arith}
use Rattle.linear_faults_run.specs.Steps.{Stays, Steps}
use Rattle.linear_faults_search.proofs.Found.{come_nowhere, come_on, come_printing, come_to_an_end, come_to_a_fault, come_to_the_bound}
use Rattle.linear_faults_search.proofs.finding.go_on.Goals as goal

pub loop-left-init : goal.loop-left-init
loop-left-init c = come_nowhere c.args.functions.now c.args.limit c.args.run.now

pub loop-left-preserved-in-Goes : goal.loop-left-preserved-in-Goes
loop-left-preserved-in-Goes c =
    let fs = c.args.functions.now in
    come_on fs c.args.limit c.args.run.now c.loop-left.left c.loop-left.run c.step.new.run c.loop-left.invariant c.loop-left-test.true
    (subst (λ t. Steps fs c.loop-left.run t c.step.new.run) c.in-Goes.is c.in_ok-step.ensures.step)

pub loop-left-preserved : goal.loop-left-preserved
loop-left-preserved c =
    let fs = c.args.functions.now in
    come_printing fs c.args.limit c.args.run.now c.loop-left.left c.loop-left.run c.step.new.run c.in-Prints.field-0 c.loop-left.invariant c.loop-left-test.true
    (subst (λ t. Steps fs c.loop-left.run t c.step.new.run) c.in-Prints.is c.in_ok-step.ensures.step)

pub returns-in-Ends : goal.returns-in-Ends
returns-in-Ends c =
    let fs = c.args.functions.now in
    come_to_an_end fs c.args.limit c.args.run.now c.loop-left.left c.loop-left.run c.step.new.run c.in-Ends.field-0 c.loop-left.invariant c.loop-left-test.true
    (subst (λ t. Steps fs c.loop-left.run t c.step.new.run) c.in-Ends.is c.in_ok-step.ensures.step)

pub returns-in-Fails : goal.returns-in-Fails
returns-in-Fails c =
    let fs = c.args.functions.now in
    come_to_a_fault fs c.args.limit c.args.run.now c.loop-left.left c.loop-left.run c.step.new.run c.in_ok-fault_here-in-Fails.field-0 c.loop-left.invariant c.loop-left-test.true
    (subst (λ t. Steps fs c.loop-left.run t c.step.new.run) c.in-Fails.is c.in_ok-step.ensures.step)
    (subst (λ t. Stays t c.loop-left.run c.step.new.run) c.in-Fails.is c.in_ok-step.ensures.stays)
    c.in_ok-fault_here-in-Fails.ensures

pub returns : goal.returns
returns c =
    come_to_the_bound c.args.functions.now c.args.limit c.args.run.now c.loop-left.left c.loop-left.run c.loop-left.invariant (omega (arith, c.loop-left-test.false))
