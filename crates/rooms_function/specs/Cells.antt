-- What becomes of offers in the cells of a function's rooms. The passes are numbered from 1 to 4.
use Rattle.std.specs.Prelude.{◌≡◌, ℕ, zero, suc, Bool, Option, Some, None}
use Rattle.std.specs.Arc.{arc_value}
use Rattle.rooms_cells.specs.Seen.{Read}
use Rattle.rooms_cells.specs.declared.sight.Put.{Put}
use Rattle.rooms_cells.specs.declared.sight.Put.TheVariants as put
use Rattle.rooms.specs.SeatValue.{offer_of, IsOffered}
use Rattle.rooms_function.specs.Pass.{words_in}
use Rattle.rooms_function.specs.declared.offered.ChainOffer.{ChainOffer}
use Rattle.rooms_function.specs.declared.offered.ChainOffer.TheVariants.{Constants, Expressions, Allocation, Order}
use Rattle.rooms_function.specs.declared.offered.SeenOffer.{SeenOffer}
use Rattle.rooms_function.specs.declared.offered.SeenOffer.TheVariants as seen
use Rattle.rooms_function.specs.declared.seat.FunctionSeat.{FunctionSeat}

-- how many nodes the room of a pass has
abbrev pub count_in : ℕ → FunctionSeat → ℕ
count_in pass s = (words_in pass s).node.quorums.nodes

-- whether the node has offered in the room of this offer's pass
abbrev pub has_offered : FunctionSeat → ChainOffer → Bool
has_offered s (Constants x) = s.first.words.node.kept.offered
has_offered s (Expressions x) = s.second.words.node.kept.offered
has_offered s (Allocation x) = s.third.words.node.kept.offered
has_offered s (Order x) = s.fourth.words.node.kept.offered

-- What became of an offer: it stands in the room of its pass, and the other rooms are as they were; or it came back, and nothing has
-- changed.
abbrev pub IsChainOffered : Put ChainOffer → ChainOffer → FunctionSeat → FunctionSeat → Type 0
IsChainOffered put.Yes (Constants x) old new = IsOffered put.Yes x (arc_value x) old.first new.first × (new ≡ record old { first = new.first })
IsChainOffered put.Yes (Expressions x) old new = IsOffered put.Yes x (arc_value x) old.second new.second × (new ≡ record old { second = new.second })
IsChainOffered put.Yes (Allocation x) old new = IsOffered put.Yes x (arc_value x) old.third new.third × (new ≡ record old { third = new.third })
IsChainOffered put.Yes (Order x) old new = IsOffered put.Yes x (arc_value x) old.fourth new.fourth × (new ≡ record old { fourth = new.fourth })
IsChainOffered (put.No back) x old new = (back ≡ x) × (new ≡ old)
IsChainOffered (put.NoMemory back) x old new = (back ≡ x) × (new ≡ old)

-- node j's cell in the room of a pass was read, and nothing else has changed
abbrev pub IsReadIn : ℕ → ℕ → FunctionSeat → FunctionSeat → Type 0
IsReadIn (suc zero) j old new =
    Read j old.first.sights new.first.sights × (new ≡ record old { first = record old.first { sights = new.first.sights } })
IsReadIn (suc (suc zero)) j old new =
    Read j old.second.sights new.second.sights × (new ≡ record old { second = record old.second { sights = new.second.sights } })
IsReadIn (suc (suc (suc zero))) j old new =
    Read j old.third.sights new.third.sights × (new ≡ record old { third = record old.third { sights = new.third.sights } })
IsReadIn other j old new =
    Read j old.fourth.sights new.fourth.sights × (new ≡ record old { fourth = record old.fourth { sights = new.fourth.sights } })

-- what the seat has seen of node j's offer in the room of a pass: nothing, or this
abbrev pub IsFetched : ℕ → ℕ → FunctionSeat → Option SeenOffer → Type 0
IsFetched (suc zero) j s None = offer_of s.first j ≡ None
IsFetched (suc zero) j s (Some (seen.Constants r)) = offer_of s.first j ≡ Some r.now
IsFetched (suc (suc zero)) j s None = offer_of s.second j ≡ None
IsFetched (suc (suc zero)) j s (Some (seen.Expressions r)) = offer_of s.second j ≡ Some r.now
IsFetched (suc (suc (suc zero))) j s None = offer_of s.third j ≡ None
IsFetched (suc (suc (suc zero))) j s (Some (seen.Allocation r)) = offer_of s.third j ≡ Some r.now
IsFetched (suc (suc (suc (suc zero)))) j s None = offer_of s.fourth j ≡ None
IsFetched (suc (suc (suc (suc zero)))) j s (Some (seen.Order r)) = offer_of s.fourth j ≡ Some r.now
IsFetched other j s any = ⊥
