use Rattle.std.proofs.Common.{◌≡◌, take, None}
use Rattle.std.specs.Prelude.{All}
use Rattle.chains.specs.Accepted.{AreAccepted}
use Rattle.chains_made.specs.Baselines.{AreBaselines}
use Rattle.chains_made.specs.Counted.{AreCounted}
use Rattle.chains.specs.Offered.{AllGoOn}
use Rattle.chains_made.proofs.compiling.all_offers.Given as goal

-- the first functions have offers that chain and are accepted, and those that are not baselines are counted; with no draws
-- all are baselines, and the maker is as it was
abbrev pub invariant-loop-number : goal.invariant-loop-number
invariant-loop-number l =
    AllGoOn (take l.number l.functions) l.offers.items
    × All AreAccepted l.offers.items
    × AreCounted l.fn.maker.proposals l.maker.proposals l.offers.items
    × (l.fn.maker.draws ≡ None → (l.maker ≡ l.fn.maker) × All AreBaselines l.offers.items)
