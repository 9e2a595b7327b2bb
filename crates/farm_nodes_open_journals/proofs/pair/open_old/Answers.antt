-- What migration says, and then the list of what it made: the pair is the one that migration left.
use Rattle.std.proofs.Common.{◌≤◌, inl, inr, sym, ap, ◌∙◌, subst}
use Rattle.std.specs.Prelude.{◌↔◌}
use Rattle.durable_model.specs.Moments.{LeavesOnly}
use Rattle.acceptor_log_migrating.specs.Stands.{IsMigrating}
use Rattle.farm_nodes_open_journals.specs.Journals.{WasMigrated}
use Rattle.farm_nodes_open_journals.proofs.Listed.{was_migrated}
use Rattle.farm_nodes_open_journals.proofs.pair.open_old.Goals as goal

pub returns-in-Ok-list-clause-ok : goal.returns-in-Ok-list-clause-ok
returns-in-Ok-list-clause-ok g c = (c.in-Ok-list.ensures.ok.0, c.in-Ok-list.ensures.ok.1 ∙ c.in-Ok.ensures.ok.1)

pub returns-in-Ok-list-clause-whole : goal.returns-in-Ok-list-clause-whole
returns-in-Ok-list-clause-whole g c = subst (λ p. g.P.Pair.is_whole p ↔ g.P.Pair.is_whole c.args.pair) (sym c.in-Ok-list.ensures.same) c.in-Ok.ensures.whole

pub returns-in-Ok-list-clause-sound : goal.returns-in-Ok-list-clause-sound
returns-in-Ok-list-clause-sound g c honest going =
    let now = g.met.P.Pair.honest_whole c.in-Ok-list.opened.0.disk honest in
    c.in-Ok-list.ensures.ready (c.in-Ok.ensures.ready ((returns-in-Ok-list-clause-whole g c).0 now))

pub returns-in-Ok-list-clause-honest : goal.returns-in-Ok-list-clause-honest
returns-in-Ok-list-clause-honest g c whole = (c.in-Ok-list.ensures.ready (c.in-Ok.ensures.ready whole)).rests.honest

pub returns-in-Ok-list-clause-acknowledged : goal.returns-in-Ok-list-clause-acknowledged
returns-in-Ok-list-clause-acknowledged g c whole = c.in-Ok-list.ensures.acknowledged (c.in-Ok.ensures.ready whole)

pub returns-in-Ok-list-clause-moved : goal.returns-in-Ok-list-clause-moved
returns-in-Ok-list-clause-moved g c whole =
    let found = c.in-Ok.ensures.migrated whole in
    (found.0, found.1, c.in-Ok-list.ensures.records (c.in-Ok.ensures.ready whole) ∙ found.2)

pub returns-in-Ok-list-clause-turned : goal.returns-in-Ok-list-clause-turned
returns-in-Ok-list-clause-turned g c whole = ap g.P.Pair.old_seen c.in-Ok-list.ensures.same ∙ c.in-Ok.ensures.turned whole

pub returns-in-Ok-list-clause-any_moment : goal.returns-in-Ok-list-clause-any_moment
returns-in-Ok-list-clause-any_moment g c whole only rs can =
    subst (λ p. LeavesOnly g.P.Disk.moment g.P.Pair.both_since c.args.pair p (IsMigrating c.args.header.now rs (g.P.Pair.old_seen c.args.pair))) (sym c.in-Ok-list.ensures.same)
    (c.in-Ok.ensures.any_moment whole only rs can)

pub returns-in-Ok-list-clause-later : goal.returns-in-Ok-list-clause-later
returns-in-Ok-list-clause-later g c = subst (λ p. g.P.Disk.faults c.args.pair ≤ g.P.Disk.faults p) (sym c.in-Ok-list.ensures.same) c.in-Ok.ensures.later

pub returns-in-Ok-list-clause-unfailed : goal.returns-in-Ok-list-clause-unfailed
returns-in-Ok-list-clause-unfailed g c = ap g.P.Disk.faults c.in-Ok-list.ensures.same ∙ c.in-Ok.ensures.unfailed

pub returns-in-Err-list-clause-whole : goal.returns-in-Err-list-clause-whole
returns-in-Err-list-clause-whole g c = subst (λ p. g.P.Pair.is_whole p ↔ g.P.Pair.is_whole c.args.pair) (sym c.in-Err-list.ensures.same) c.in-Ok.ensures.whole

pub returns-in-Err-list-clause-any_moment : goal.returns-in-Err-list-clause-any_moment
returns-in-Err-list-clause-any_moment g c whole only rs can =
    subst (λ p. LeavesOnly g.P.Disk.moment g.P.Pair.both_since c.args.pair p (IsMigrating c.args.header.now rs (g.P.Pair.old_seen c.args.pair))) (sym c.in-Err-list.ensures.same)
    (c.in-Ok.ensures.any_moment whole only rs can)

pub returns-in-Err-list-clause-refused : goal.returns-in-Err-list-clause-refused
returns-in-Err-list-clause-refused g c whole memory device = absurd (memory (c.in-Err-list.ensures.faults (c.in-Ok.ensures.ready whole)))

pub returns-in-Err-list-clause-stays : goal.returns-in-Err-list-clause-stays
returns-in-Err-list-clause-stays g c whole only memory device = absurd (memory (c.in-Err-list.ensures.faults (c.in-Ok.ensures.ready whole)))

pub returns-in-Err-list-clause-unwritten : goal.returns-in-Err-list-clause-unwritten
returns-in-Err-list-clause-unwritten g c whole device =
    let ready = c.in-Ok.ensures.ready whole in
    let found = c.in-Ok.ensures.migrated whole in
    inr (subst (λ p. WasMigrated g.P.Disk g.P.Pair c.args.header.now c.args.pair p) (sym c.in-Err-list.ensures.same)
    (was_migrated g.P.Disk g.P.Pair c.args.header.now c.args.pair c.in-Ok.log found.0 c.in-Ok.ensures.ok.1 ready found.1 found.2 (c.in-Ok.ensures.turned whole)))

pub returns-in-Err-list-clause-failed : goal.returns-in-Err-list-clause-failed
returns-in-Err-list-clause-failed g c device = absurd (c.in-Err-list.ensures.never device)

pub returns-in-Err-list-clause-later : goal.returns-in-Err-list-clause-later
returns-in-Err-list-clause-later g c = subst (λ p. g.P.Disk.faults c.args.pair ≤ g.P.Disk.faults p) (sym c.in-Err-list.ensures.same) c.in-Ok.ensures.later

pub returns-in-Err-list-clause-unfailed_refused : goal.returns-in-Err-list-clause-unfailed_refused
returns-in-Err-list-clause-unfailed_refused g c other = ap g.P.Disk.faults c.in-Err-list.ensures.same ∙ c.in-Ok.ensures.unfailed

pub returns-in-Err-clause-unwritten : goal.returns-in-Err-clause-unwritten
returns-in-Err-clause-unwritten g c whole device = inl (c.in-Err.ensures.unwritten whole device)
