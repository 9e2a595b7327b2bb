-- Four offers that are lent, and names with such offers beside them.
use Rattle.std.specs.Prelude.{List, map, Option, Some, None}
use Rattle.linker.specs.declared.chain.Chain as linking_chain
use Rattle.linker.specs.declared.chain.Named as linking_named
use Rattle.farm_nodes_meet_seats.specs.Offers.{ConstantsOffer, ExpressionsOffer, AllocationOffer, OrderOffer}
use Rattle.farm_nodes_link.specs.Learned.{FourOffers}

abbrev pub Chain : Type 0
Chain = linking_chain.Chain ConstantsOffer ExpressionsOffer AllocationOffer OrderOffer

abbrev pub Named : Type 0
Named = linking_named.Named ConstantsOffer ExpressionsOffer AllocationOffer OrderOffer

-- the four offers, if any are lent
abbrev pub lent : Option Chain → Option FourOffers
lent None = None
lent (Some c) = Some (record { constants = c.first.now; expressions = c.second.now; allocation = c.third.now; order = c.fourth.now })

-- those beside each name
abbrev pub lent_beside : List Named → List (Option FourOffers)
lent_beside named = map (λ n. lent n.chain) named
