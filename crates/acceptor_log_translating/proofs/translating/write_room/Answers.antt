-- Why `write_room` meets its clause `added`.
use Rattle.std.proofs.Common.{◌∙◌}
use Rattle.acceptor_log_form.specs.Leaves.{kept_in}
use Rattle.acceptor_log_old.specs.Migrated.{first_offer_in, offered, summary_of}
use Rattle.acceptor_log_translating.proofs.Written.{both_added, summary_same}
use Rattle.acceptor_log_translating.proofs.translating.write_room.Goals as goal

pub returns-clause-added : goal.returns-clause-added
returns-clause-added c rs found =
    let m = c.args.room in
    both_added c.args.out.now.items c.write_offer.new.out.items c.write_summary.new.out.items (offered m (first_offer_in rs m)) (summary_of m (kept_in rs m)) c.in_ok-offers.offers c.in_ok-summaries.summaries
    (c.in_ok-offers.ensures.added m (first_offer_in rs m) (c.part.ensures ∙ found.offer.text) found.offer.fits)
    (summary_same c.write_offer.new.out.items c.write_summary.new.out.items m c.args.found.kept (kept_in rs m) c.in_ok-summaries.summaries found.kept c.in_ok-summaries.ensures.added)
