-- Why `learned_offer` meets its contract.
use Rattle.std.proofs.Common.{ℕ, ◌<◌, sym, subst}
use Rattle.farm_nodes_meet_seats.proofs.Seen.{fetched}
use Rattle.farm_nodes_meet_seats.proofs.learned.learned_offer.Goals as goal

pub returns : goal.returns
returns g c =
    fetched c.args.seat.now c.in-Some.value c.fetch.result (sym c.in-Some.ensures.value)
    (subst (λ (n : ℕ). c.in-Some.value < n) c.count.ensures.value c.if-value-count.false) c.fetch.ensures
