-- Why `tear_all` meets its contract, and its loop over `call` keeps the invariant.
use Rattle.std.proofs.Common.{◌≡◌, subst, ◌∙◌, take}
use Rattle.std.proofs.lemmas.List.{take_more, take_all}
use Rattle.durable_model_writes.specs.History.{RedoneTo}
use Rattle.durable_model_writes.proofs.Redone.{none_redone_to, more_redone_to, all_redone_to}
use Rattle.durable_model_writes.proofs.replaying.tear_all.Goals as goal

pub loop-call-init : goal.loop-call-init
loop-call-init c first h is left = none_redone_to first c.args.written.now h c.args.seen.now.items c.args.image.now.items is left

pub loop-call-preserved : goal.loop-call-preserved
loop-call-preserved c first h is left =
    let split = c.split_at_call in
    more_redone_to first c.args.calls.now c.loop-call.call-index _ c.args.written.now h c.loop-call.rest.now split.result.0.now
    c.loop-call.seen.items c.loop-call.image.items split.result.1.now c.redo.new.seen.items c.tear_call.new.image.items
    (take_more _ _ _ c.loop-call-test.true) split.ensures.bytes split.ensures.rest c.in_ok-redo.ensures
    (λ g seen_is image_left. c.in_ok-tear_call.ensures first g (c.deref.ensures.value ∙ seen_is) image_left)
    (c.loop-call.invariant first h is left)

pub returns : goal.returns
returns c first h is left =
    let calls = c.args.calls.now in
    let all : take c.loop-call.call-index calls ≡ calls = take_all _ _ c.loop-call-test.false in
    all_redone_to first calls c.args.written.now h c.loop-call.rest.now c.loop-call.seen.items c.loop-call.image.items
    (subst (λ cs. RedoneTo first cs c.args.written.now h c.loop-call.rest.now c.loop-call.seen.items c.loop-call.image.items) all
    (c.loop-call.invariant first h is left))
