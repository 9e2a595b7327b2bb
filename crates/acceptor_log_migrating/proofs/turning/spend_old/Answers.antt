-- The old disk is as it was but for its first byte, and the new one as it was.
use Rattle.std.proofs.Common.{List, ℕ, [], ◌∷◌, inl, inr, sym, ◌∙◌, subst}
use Rattle.durable_model_writes.specs.declared.call.Call.TheVariants.{Wrote, Tore, Synced, Left}
use Rattle.durable_pair.proofs.Results.{on_ok, each_way, either_way}
use Rattle.acceptor_log_migrating.proofs.Turned.{spend_started, spend_goes_on, both_ways}
use Rattle.acceptor_log_migrating.proofs.turning.spend_old.Goals as goal

pub returns-in-Err-clause-any_moment : goal.returns-in-Err-clause-any_moment
returns-in-Err-clause-any_moment g c whole =
    let pair = g.P.Pair in
    let disk = g.P.Disk in
    let p = c.args.pair.now in
    let q = c.write_old_at.new.self in
    let at_start = spend_started disk.moment pair.both_since pair.new_may pair.old_may disk.seen pair.old_seen p (λ im. g.met.P.Pair.both_only p im whole) in
    each_way c.write_old_at.result (c.write_old_at.ensures.done whole)
    (λ does. spend_goes_on disk.moment pair.both_since pair.new_may pair.old_may disk.seen pair.old_seen p p q (Wrote 0 1) (0 ∷ []) at_start (λ image left. left) (λ d left. inr (does.left d left)) does)
    (λ device. let does = c.write_old_at.ensures.tore whole device in
    spend_goes_on disk.moment pair.both_since pair.new_may pair.old_may disk.seen pair.old_seen p p q (Tore 0 1) [] at_start (λ image left. left) (λ d left. inr (does.left d left)) does)
    (λ memory. let does = c.write_old_at.ensures.left whole memory in
    spend_goes_on disk.moment pair.both_since pair.new_may pair.old_may disk.seen pair.old_seen p p q Left [] at_start (λ image left. left) (λ d left. inl (does.left d left)) does)

pub returns-in-Err-clause-beside : goal.returns-in-Err-clause-beside
returns-in-Err-clause-beside g c whole =
    each_way c.write_old_at.result (c.write_old_at.ensures.done whole) (λ does. does.other_same)
    (λ device. (c.write_old_at.ensures.tore whole device).other_same) (λ memory. (c.write_old_at.ensures.left whole memory).other_same)

pub returns-in-Err-clause-beside_left : goal.returns-in-Err-clause-beside_left
returns-in-Err-clause-beside_left g c whole =
    each_way c.write_old_at.result (c.write_old_at.ensures.done whole) (λ does. does.other_left)
    (λ device. (c.write_old_at.ensures.tore whole device).other_left) (λ memory. (c.write_old_at.ensures.left whole memory).other_left)

pub returns-in-Ok-clause-whole : goal.returns-in-Ok-clause-whole
returns-in-Ok-clause-whole g c = both_ways c.sync_old.ensures.whole c.write_old_at.ensures.whole

pub returns-in-Ok-clause-any_moment : goal.returns-in-Ok-clause-any_moment
returns-in-Ok-clause-any_moment g c whole =
    let pair = g.P.Pair in
    let disk = g.P.Disk in
    let p = c.args.pair.now in
    let q = c.write_old_at.new.self in
    let r = c.sync_old.new.self in
    let still = c.write_old_at.ensures.whole.1 whole in
    let at_start = spend_started disk.moment pair.both_since pair.new_may pair.old_may disk.seen pair.old_seen p (λ im. g.met.P.Pair.both_only p im whole) in
    let wrote = c.in-Ok.ensures.done whole in
    let run = spend_goes_on disk.moment pair.both_since pair.new_may pair.old_may disk.seen pair.old_seen p p q (Wrote 0 1) (0 ∷ []) at_start (λ image left. left) (λ d left. inr (wrote.left d left)) wrote in
    either_way c.sync_old.result (c.sync_old.ensures.done still)
    (λ does. spend_goes_on disk.moment pair.both_since pair.new_may pair.old_may disk.seen pair.old_seen p q r Synced [] run (λ image left. (wrote.other_left image).0 left)
    (λ d left. inr (wrote.left d (subst (pair.old_may q) (sym (does.left d left)) (g.met.P.Pair.both_as_seen q still).1))) does)
    (c.sync_old.ensures.left still)
    (λ does. spend_goes_on disk.moment pair.both_since pair.new_may pair.old_may disk.seen pair.old_seen p q r Left [] run (λ image left. (wrote.other_left image).0 left)
    (λ d left. inr (wrote.left d (does.left d left))) does)

pub returns-in-Ok-clause-beside : goal.returns-in-Ok-clause-beside
returns-in-Ok-clause-beside g c whole =
    let still = c.write_old_at.ensures.whole.1 whole in
    either_way c.sync_old.result (c.sync_old.ensures.done still) (λ does. does.other_same) (c.sync_old.ensures.left still) (λ does. does.other_same)
    ∙ (c.in-Ok.ensures.done whole).other_same

pub returns-in-Ok-clause-beside_left : goal.returns-in-Ok-clause-beside_left
returns-in-Ok-clause-beside_left g c whole image =
    let still = c.write_old_at.ensures.whole.1 whole in
    both_ways (either_way c.sync_old.result (c.sync_old.ensures.done still) (λ does. does.other_left image) (c.sync_old.ensures.left still) (λ does. does.other_left image))
    ((c.in-Ok.ensures.done whole).other_left image)

pub returns-in-Ok-clause-written : goal.returns-in-Ok-clause-written
returns-in-Ok-clause-written g c whole =
    let still = c.write_old_at.ensures.whole.1 whole in
    on_ok c.sync_old.result (c.sync_old.ensures.done still) (λ does. does.sees ∙ (c.in-Ok.ensures.done whole).sees)

pub returns-in-Ok-clause-durable : goal.returns-in-Ok-clause-durable
returns-in-Ok-clause-durable g c whole =
    let still = c.write_old_at.ensures.whole.1 whole in
    on_ok c.sync_old.result (c.sync_old.ensures.done still) (λ does. λ d left. does.left d left ∙ sym does.sees)
