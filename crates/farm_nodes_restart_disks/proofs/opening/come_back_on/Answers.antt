-- The old disk is read, and then the node comes back over the new one.
use Rattle.std.proofs.Common.{◌*◌, List, ℕ, length, Some, None, Err, sym, ap, ◌∙◌, subst}
use Rattle.acceptor_log.specs.Acknowledged.{acknowledged}
use Rattle.acceptor_log_form.specs.Text.{StandsFor}
use Rattle.farm_nodes_restart_node.specs.Fours.{fours_of}
use Rattle.farm_nodes_restart_node.specs.Texts.{pass_texts}
use Rattle.farm_nodes_restart_node.specs.Returned.{HasReason}
use Rattle.farm_nodes_restart_seat.specs.declared.fault.RestartFault.{RestartFault}
use Rattle.farm_nodes_open_old.proofs.Shows.{shows_first}
use Rattle.durable_pair.specs.Images.{Images}
use Rattle.farm_nodes_restart_disks.proofs.Own.{cause_before, cause_over}
use Rattle.farm_nodes_restart_disks.proofs.OverPair.{counts_from, is_shown, is_untouched, moments_over, one_fault, same_untouched}
use Rattle.farm_nodes_restart_disks.proofs.Telling.{one_told}
use Rattle.farm_nodes_restart_disks.proofs.opening.come_back_on.Goals as goal

pub returns-in-Ok-come_back-clause-honest : goal.returns-in-Ok-come_back-clause-honest
returns-in-Ok-come_back-clause-honest g c =
    let back = c.in-Ok-come_back.ensures.honest in
    (λ now. c.no_old_journal.ensures.whole.0 (g.met.P.Pair.honest_whole c.no_old_journal.new.pair (back.0 now)), λ is. back.1 (c.in-Ok.ensures.honest is))

pub returns-in-Ok-come_back-clause-listed : goal.returns-in-Ok-come_back-clause-listed
returns-in-Ok-come_back-clause-listed g c is =
    subst (λ (bytes : List ℕ). StandsFor c.args.header.now (acknowledged g.P.Disk.seen c.in-Ok-come_back.log) bytes) (c.no_old_journal.ensures.same is).new_same
    (c.in-Ok-come_back.ensures.listed (c.in-Ok.ensures.honest is))

pub returns-in-Ok-come_back-clause-in_order : goal.returns-in-Ok-come_back-clause-in_order
returns-in-Ok-come_back-clause-in_order g c is = c.in-Ok-come_back.ensures.in_order (c.in-Ok.ensures.honest is)

pub returns-in-Ok-come_back-clause-seats : goal.returns-in-Ok-come_back-clause-seats
returns-in-Ok-come_back-clause-seats g c is = c.in-Ok-come_back.ensures.seats (c.in-Ok.ensures.honest is)

pub returns-in-Ok-come_back-clause-unchanged : goal.returns-in-Ok-come_back-clause-unchanged
returns-in-Ok-come_back-clause-unchanged g c is =
    is_shown g.P.Disk g.P.Pair c.args.pair c.no_old_journal.new.pair (c.no_old_journal.ensures.same is) (c.in-Ok.ensures.spent is) (c.in-Ok.ensures.honest is)
    (λ p image honest left. g.met.P.Pair.only_new p image honest left) c.in-Ok-come_back.log.disk (c.in-Ok-come_back.ensures.unchanged (c.in-Ok.ensures.honest is))

pub returns-in-Ok-come_back-clause-any_moment : goal.returns-in-Ok-come_back-clause-any_moment
returns-in-Ok-come_back-clause-any_moment g c is =
    let law = g.met.P.Pair in
    moments_over g.P.Disk g.P.Pair c.args.pair c.no_old_journal.new.pair (c.no_old_journal.ensures.same is) (c.in-Ok.ensures.spent is) (c.in-Ok.ensures.honest is)
    (λ p image honest left. law.only_new p image honest left) (λ p t im image both shows. law.shown p t im image both shows) (λ p t image left. law.of_both p t image left)
    (law.both_as_seen c.args.pair is).1 (c.no_old_journal.ensures.any_moment is) c.in-Ok-come_back.log.disk (c.in-Ok-come_back.ensures.any_moment (c.in-Ok.ensures.honest is))

pub returns-in-Err-come_back-clause-whole : goal.returns-in-Err-come_back-clause-whole
returns-in-Err-come_back-clause-whole g c is =
    g.met.P.Pair.honest_whole c.in-Err-come_back.refused.0 (c.in-Err-come_back.ensures.honest.1 (c.in-Ok.ensures.honest is))

pub returns-in-Err-come_back-clause-untouched : goal.returns-in-Err-come_back-clause-untouched
returns-in-Err-come_back-clause-untouched g c is =
    let law = g.met.P.Pair in
    let back = c.in-Err-come_back.refused.0 in
    let now = c.in-Err-come_back.ensures.honest.1 (c.in-Ok.ensures.honest is) in
    is_untouched g.P.Disk g.P.Pair c.args.pair c.no_old_journal.new.pair (c.no_old_journal.ensures.same is) (c.in-Ok.ensures.spent is) (c.in-Ok.ensures.honest is)
    (λ p image honest left. law.only_new p image honest left) back (c.in-Err-come_back.ensures.unchanged (c.in-Ok.ensures.honest is))
    (law.honest_spent back (g.P.Pair.old_seen back) now (law.both_as_seen back (law.honest_whole back now)).1)

pub returns-in-Err-come_back-clause-any_moment : goal.returns-in-Err-come_back-clause-any_moment
returns-in-Err-come_back-clause-any_moment g c is =
    let law = g.met.P.Pair in
    moments_over g.P.Disk g.P.Pair c.args.pair c.no_old_journal.new.pair (c.no_old_journal.ensures.same is) (c.in-Ok.ensures.spent is) (c.in-Ok.ensures.honest is)
    (λ p image honest left. law.only_new p image honest left) (λ p t im image both shows. law.shown p t im image both shows) (λ p t image left. law.of_both p t image left)
    (law.both_as_seen c.args.pair is).1 (c.no_old_journal.ensures.any_moment is) c.in-Err-come_back.refused.0 (c.in-Err-come_back.ensures.any_moment (c.in-Ok.ensures.honest is))

pub returns-in-Err-come_back-clause-refused : goal.returns-in-Err-come_back-clause-refused
returns-in-Err-come_back-clause-refused g c is =
    let rooms = 4 * length c.args.seats.now.items in
    let seats = fours_of c.args.seats.now.items in
    let im : Images = (g.P.Disk.seen c.args.pair, g.P.Pair.old_seen c.args.pair) in
    cause_over pass_texts c.args.header.now rooms seats c.args.room c.args.pending.now im c.in-Err-come_back.refused.1 (c.in-Ok.ensures.spent is)
    (subst (λ (bytes : List ℕ). HasReason pass_texts c.args.header.now rooms seats c.args.room c.args.pending.now bytes c.in-Err-come_back.refused.1)
    (c.no_old_journal.ensures.same is).new_same (c.in-Err-come_back.ensures.refused (c.in-Ok.ensures.honest is)))

pub returns-in-Err-clause-whole : goal.returns-in-Err-clause-whole
returns-in-Err-clause-whole g c is = c.no_old_journal.ensures.whole.1 is

pub returns-in-Err-clause-untouched : goal.returns-in-Err-clause-untouched
returns-in-Err-clause-untouched g c is = same_untouched g.P.Disk g.P.Pair c.args.pair c.no_old_journal.new.pair (c.no_old_journal.ensures.same is)

pub returns-in-Err-clause-any_moment : goal.returns-in-Err-clause-any_moment
returns-in-Err-clause-any_moment g c is =
    let law = g.met.P.Pair in
    shows_first g.P.Disk g.P.Pair (λ p t im image both shows. law.shown p t im image both shows) (λ p t image left. law.of_both p t image left)
    c.args.pair c.no_old_journal.new.pair (c.no_old_journal.ensures.any_moment is)

pub returns-in-Err-clause-refused : goal.returns-in-Err-clause-refused
returns-in-Err-clause-refused g c is =
    let im : Images = (g.P.Disk.seen c.args.pair, g.P.Pair.old_seen c.args.pair) in
    cause_before pass_texts c.args.header.now (4 * length c.args.seats.now.items) (fours_of c.args.seats.now.items) c.args.room c.args.pending.now im c.in-Err.fault
    (c.in-Err.ensures.refused is)

pub returns-in-Ok-come_back-clause-failures : goal.returns-in-Ok-come_back-clause-failures
returns-in-Ok-come_back-clause-failures g c =
    counts_from (g.P.Disk.faults c.args.pair) (g.P.Disk.faults c.no_old_journal.new.pair) (g.P.Disk.faults c.in-Ok-come_back.log.disk) None
    (c.no_old_journal.ensures.unfailed (λ bad. let both = sym c.in-Ok.is ∙ bad in absurd (cc))) c.in-Ok-come_back.ensures.failures

pub returns-in-Err-come_back-clause-failures : goal.returns-in-Err-come_back-clause-failures
returns-in-Err-come_back-clause-failures g c =
    counts_from (g.P.Disk.faults c.args.pair) (g.P.Disk.faults c.no_old_journal.new.pair) (g.P.Disk.faults c.in-Err-come_back.refused.0) (Some c.in-Err-come_back.refused.1)
    (c.no_old_journal.ensures.unfailed (λ bad. let both = sym c.in-Ok.is ∙ bad in absurd (cc))) c.in-Err-come_back.ensures.failures

pub returns-in-Err-clause-failures : goal.returns-in-Err-clause-failures
returns-in-Err-clause-failures g c = record {
  later = c.no_old_journal.ensures.later;
  failed = λ told. c.no_old_journal.ensures.failed (c.in-Err.is ∙ ap (λ f. Err f) (one_told told));
  unfailed = λ other.
      c.no_old_journal.ensures.unfailed (λ bad. other (ap (λ (fault : RestartFault). Some fault) (one_fault (sym c.in-Err.is ∙ bad))));
}
