use Rattle.std.proofs.Common.{◌≡◌, All, None, length}
use Rattle.farm_nodes_open_offers.proofs.knowing.none_yet.Given as goal

abbrev pub invariant-loop-function : goal.invariant-loop-function
invariant-loop-function g l = record { count : length l.offers.items ≡ l._function; none : All (λ offer. offer ≡ None) l.offers.items }
