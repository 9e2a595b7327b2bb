-- Why `torn_image` meets its contract.
use Rattle.std.proofs.Common.{rules, ◌≡◌, [], ap, subst, sym, ◌∙◌}
use Rattle.durable_model_writes.specs.History.{noted, MayLeave}
use Rattle.durable_model_writes.specs.History.{seen_left}
use Rattle.durable_model_writes.proofs.replaying.torn_image.Goals as goal

pub returns : goal.returns
returns c =
    let first = c.args.first.now in
    let seen_is : c.in_ok-seen.seen.items ≡ first = search rules in
    let image_is : c.in_ok-image.image.items ≡ c.redo_all.new.seen.items = search rules in
    let redone = c.in_ok-rest.ensures first [] seen_is in
    let left : MayLeave redone.through first c.in_ok-image.image.items =
    subst (MayLeave redone.through first) (sym (image_is ∙ redone.seen_is)) (seen_left redone.through first) in
    let all = c.in_ok-tear_all.ensures first redone.through redone.seen_is left in
    subst (λ h. MayLeave h first c.tear_all.new.image.items)
    (sym (ap (λ cs. noted cs c.args.written.now []) c.split_at.ensures.by_index.0 ∙ redone.on c.split_at.result.1.now)) all
