-- Where an argument has a gap, where the bound is spent, and where the function begins.
use Rattle.std.proofs.Common.{◌<◌, [], map, take, ◌∙◌, arith}
use Rattle.c_program.specs.Meaning.{Outcome, gives, level}
use Rattle.c_program.specs.Views.{term_tree}
use Rattle.c_program.specs.Trees.{Called}
use Rattle.c_faults.specs.Faults.{blames}
use Rattle.c_meaning_machine.proofs.Levels.{cost_calls}
use Rattle.c_faults_step.specs.Piles.{pending}
use Rattle.c_faults_step.specs.Steps.{functions_of, frame_of, here, rest_of}
use Rattle.c_faults_step.proofs.Ahead.{ahead_runs_out}
use Rattle.c_faults_step.proofs.Entered.{call_spent, call_enters, call_wrong}
use Rattle.c_faults_run.proofs.Listed.{gap_there, worth_here}
use Rattle.c_faults_run.proofs.calling.call.Goals as goal

pub returns-in-Some-clause-meaning : goal.returns-in-Some-clause-meaning
returns-in-Some-clause-meaning c = λ output.
    let t = c.args.tracer.now in
    let called = c.args.called.now in
    let lower = level (functions_of t) c.args.bound in
    let es = map term_tree called.arguments in
    let there = gap_there c.args.places.now c.others.result.now called.arguments c.as_slice-arguments.result.now t.scope c.argument_words.new.words.items _ c.in-Some.found output c.in_ok-found.ensures c.in-Some.is c.as_slice-arguments.ensures c.others.ensures in
    call_wrong (frame_of t) lower (blames t.places.now (functions_of t) c.args.bound) c.args.places.now c.args.target called.function es (here t output)
    c.in-Some.found (rest_of t (gives lower c.args.target (Called called.function es) (here t output))) there

pub returns-then-bound-eq0-clause-meaning : goal.returns-then-bound-eq0-clause-meaning
returns-then-bound-eq0-clause-meaning c = λ output.
    let t = c.args.tracer.now in
    let called = c.args.called.now in
    let worth = worth_here c.args.places.now c.others.result.now called.arguments c.as_slice-arguments.result.now t.scope c.argument_words.new.words.items _ output c.in_ok-found.ensures c.in_default.is c.as_slice-arguments.ensures c.others.ensures in
    call_spent t.places.now (functions_of t) c.args.bound (frame_of t) c.args.places.now c.args.target called.function (map term_tree called.arguments)
    (here t output) c.argument_words.new.words.items (λ (o : Outcome). rest_of t o) c.if-bound-eq0.true worth.0 worth.1
    (ahead_runs_out t.places.now (functions_of t) (pending t.items) t.running (take t.scope.base t.scope.locals.items) output)

pub returns-clause-meaning : goal.returns-clause-meaning
returns-clause-meaning c = λ output.
    let t = c.args.tracer.now in
    let called = c.args.called.now in
    let bound : 0 < c.args.bound = omega arith in
    let worth = worth_here c.args.places.now c.others.result.now called.arguments c.as_slice-arguments.result.now t.scope c.argument_words.new.words.items _ output c.in_ok-found.ensures c.in_default.is c.as_slice-arguments.ensures c.others.ensures in
    (rw c.own.ensures at (c.in_ok-step.ensures.meaning output))
    ∙ call_enters t.places.now (functions_of t) c.args.bound (frame_of t) c.args.places.now c.args.target called.function (map term_tree called.arguments)
    (here t output) c.argument_words.new.words.items (λ (o : Outcome). rest_of t o) bound worth.0 worth.1

pub returns-clause-cost : goal.returns-clause-cost
returns-clause-cost c =
    let t = c.args.tracer.now in
    let bound : 0 < c.args.bound = omega arith in
    omega (arith, cost_calls (functions_of t) c.args.bound c.args.called.now.function [] bound, c.in_ok-step.ensures.cost)
