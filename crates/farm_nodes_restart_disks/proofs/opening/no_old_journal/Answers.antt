-- What stands on the old disk is told.
use Rattle.std.proofs.Common.{Err, inr, refl, sym, ap, ◌∙◌, subst, arith}
use Rattle.durable_pair.specs.Images.{IsSpent}
use Rattle.farm_nodes_open_old.specs.OnPairs.{IsOldDisk}
use Rattle.farm_nodes_open_old.specs.declared.old.OldDisk.{OldDisk}
use Rattle.farm_nodes_restart_node.proofs.Refusing.{device_of}
use Rattle.farm_nodes_restart_seat.specs.declared.fault.RestartFault.{RestartFault}
use Rattle.farm_nodes_restart_seat.specs.Refusals.{restart_fault}
use Rattle.farm_nodes_restart_disks.specs.Cause.{HasCauseBefore}
use Rattle.farm_nodes_restart_disks.proofs.OverPair.{early, one_fault}
use Rattle.farm_nodes_restart_disks.proofs.opening.no_old_journal.Goals as goal

pub returns-in-Ok-Counts-clause-refused : goal.returns-in-Ok-Counts-clause-refused
returns-in-Ok-Counts-clause-refused g c is =
    let counts = subst (λ (found : OldDisk). IsOldDisk (g.P.Pair.old_seen c.args.pair.now) found) c.in-Ok-Counts.field-0-is (c.in-Ok-Counts.ensures.told is) in
    inr (λ spent. spent counts, refl)

pub returns-in-Ok-Counts-clause-unfailed : goal.returns-in-Ok-Counts-clause-unfailed
returns-in-Ok-Counts-clause-unfailed g c other = c.old_disk.ensures.unfailed (λ bad. let both = sym c.in-Ok-Counts.is ∙ bad in absurd (cc))

pub returns-in-Ok-Empty-clause-spent : goal.returns-in-Ok-Empty-clause-spent
returns-in-Ok-Empty-clause-spent g c is =
    let none = subst (λ (found : OldDisk). IsOldDisk (g.P.Pair.old_seen c.args.pair.now) found) c.in-Ok-Empty.field-0-is (c.in-Ok-Empty.ensures.told is) in
    subst IsSpent (sym none) (λ bad. absurd (omega (arith, bad)))

pub returns-in-Ok-Empty-clause-honest : goal.returns-in-Ok-Empty-clause-honest
returns-in-Ok-Empty-clause-honest g c is =
    c.in-Ok-Empty.ensures.honest is (λ bad. let both = sym c.in-Ok-Empty.field-0-is ∙ bad in absurd (cc))

pub returns-in-Ok-Empty-clause-unfailed : goal.returns-in-Ok-Empty-clause-unfailed
returns-in-Ok-Empty-clause-unfailed g c other = c.old_disk.ensures.unfailed (λ bad. let both = sym c.in-Ok-Empty.is ∙ bad in absurd (cc))

pub returns-in-Ok-Spent-clause-spent : goal.returns-in-Ok-Spent-clause-spent
returns-in-Ok-Spent-clause-spent g c is =
    let both = subst (λ (found : OldDisk). IsOldDisk (g.P.Pair.old_seen c.args.pair.now) found) c.in-Ok-Spent.field-0-is (c.in-Ok-Spent.ensures.told is) in
    both.0

pub returns-in-Ok-Spent-clause-honest : goal.returns-in-Ok-Spent-clause-honest
returns-in-Ok-Spent-clause-honest g c is =
    c.in-Ok-Spent.ensures.honest is (λ bad. let both = sym c.in-Ok-Spent.field-0-is ∙ bad in absurd (cc))

pub returns-in-Ok-Spent-clause-unfailed : goal.returns-in-Ok-Spent-clause-unfailed
returns-in-Ok-Spent-clause-unfailed g c other = c.old_disk.ensures.unfailed (λ bad. let both = sym c.in-Ok-Spent.is ∙ bad in absurd (cc))

pub returns-in-Err-clause-refused : goal.returns-in-Err-clause-refused
returns-in-Err-clause-refused g c is =
    let old = g.P.Pair.old_seen c.args.pair.now in
    subst (λ (f : RestartFault). HasCauseBefore old f) (sym c.of.ensures) (early old c.in-Err.error c.in-Err.ensures.faults)

pub returns-in-Err-clause-failed : goal.returns-in-Err-clause-failed
returns-in-Err-clause-failed g c told =
    c.old_disk.ensures.failed (c.in-Err.is ∙ ap (λ e. Err e) (device_of c.in-Err.error (sym c.of.ensures ∙ one_fault told)))

pub returns-in-Err-clause-unfailed : goal.returns-in-Err-clause-unfailed
returns-in-Err-clause-unfailed g c other =
    c.old_disk.ensures.unfailed (λ bad. other (ap (λ f. Err f) (c.of.ensures ∙ ap restart_fault (one_fault (sym c.in-Err.is ∙ bad)))))
