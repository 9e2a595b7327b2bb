-- Four offers that are lent.
use Rattle.chains.specs.declared.offering.Offers.{Offers}
use Rattle.chains.specs.Lent.{Chain}

abbrev pub lent_offers : Chain → Offers
lent_offers chain = record { constants = chain.first.now; expressions = chain.second.now; allocation = chain.third.now; order = chain.fourth.now }
