-- What a node has learned of whom all functions were counted.
use Rattle.std.proofs.Common.{◌≡◌, ℕ, List, length, Option, Some, None, refl, sym, ◌∙◌, arith}
use Rattle.std.specs.Prelude.{IsSome, slice_get}
use Rattle.std.proofs.lemmas.Option.{slice_get_within}
use Rattle.rooms_hall.specs.declared.hall.Naming as naming
use Rattle.farm_nodes_meet_seats.specs.Functions.{BothLink}
use Rattle.farm_nodes_meet_seats.specs.Held.{held_of}
use Rattle.farm_nodes_meet_seats.specs.Learned.{learned_offer, offer_learned}
use Rattle.farm_nodes_turn_node.specs.Fours.{four_of, words_of}
use Rattle.farm_nodes_turn_node.specs.NumberedSeat.{NumberedSeat}
use Rattle.farm_nodes_turn_node.specs.SeatState.{SeatState}
use Rattle.farm_nodes_turn_node.specs.SeatValue.{SeatValue}
use Rattle.farm_nodes_turn_node.specs.Which.{Which}
use Rattle.farm_nodes_turn_node.specs.Which.TheVariants.{Constants, Expressions, Allocation, Order}
use Rattle.farm_nodes_meet_seats.proofs.Places.{all_link}
use Rattle.farm_nodes_turn_node.proofs.Places.{found}
use Rattle.cfarm_build_result.specs.Alike.{HaveCounted}
use Rattle.cfarm_build_result.specs.Going.{FunctionGoesOn}

-- something is learned there
abbrev pub HasLearned : SeatState → Type 0
HasLearned s = (v : ℕ) × (s.node.learned ≡ Some v)

learned_in : {T : Type 0} (s : SeatValue T) (o : Option ℕ) → IsSome (offer_learned s o) → (v : ℕ) × (o ≡ Some v)
learned_in s None is = absurd (cc is)
learned_in s (Some v) is = (v, refl)

has_learned : {T : Type 0} (s : SeatValue T) → IsSome (learned_offer s) → HasLearned s.words
has_learned s is = learned_in s s.words.node.learned is

pub same_learned : (s : SeatState) (v u : ℕ) → s.node.learned ≡ Some v → s.node.learned ≡ Some u → v ≡ u
same_learned s v u ev eu = let same : Some v ≡ Some u = sym ev ∙ eu in cc

module _ {H : Type 0} {h : naming.Ghosts H} where
  pub goes_learned : (a b : NumberedSeat H h) → FunctionGoesOn a b → (pass : Which) (v : ℕ) → (words_of (four_of a) pass).node.learned ≡ Some v
      → (words_of (four_of b) pass).node.learned ≡ Some v
  goes_learned a b goes Constants v e = goes.constants.learned v e
  goes_learned a b goes Expressions v e = goes.expressions.learned v e
  goes_learned a b goes Allocation v e = goes.allocation.learned v e
  goes_learned a b goes Order v e = goes.order.learned v e

  pub first_learned : (a b : NumberedSeat H h) → BothLink (held_of a) (held_of b) → (pass : Which) → HasLearned (words_of (four_of a) pass)
  first_learned a b link Constants = has_learned a.seat.first link.constants.first
  first_learned a b link Expressions = has_learned a.seat.second link.expressions.first
  first_learned a b link Allocation = has_learned a.seat.third link.allocation.first
  first_learned a b link Order = has_learned a.seat.fourth link.order.first

  pub second_learned : (a b : NumberedSeat H h) → BothLink (held_of a) (held_of b) → (pass : Which) → HasLearned (words_of (four_of b) pass)
  second_learned a b link Constants = has_learned b.seat.first link.constants.second
  second_learned a b link Expressions = has_learned b.seat.second link.expressions.second
  second_learned a b link Allocation = has_learned b.seat.third link.allocation.second
  second_learned a b link Order = has_learned b.seat.fourth link.order.second

  -- the second of two of whom all functions were counted
  pub counted_learned : (xs ys : List (NumberedSeat H h)) → HaveCounted xs ys → (k : ℕ) (b : NumberedSeat H h) → slice_get ys k ≡ Some b → (pass : Which)
      → HasLearned (words_of (four_of b) pass)
  counted_learned xs ys has k b eb pass =
      let counted = has.counted in
      let all = counted.met.met counted.alike in
      let low = slice_get_within ys k b eb in
      let d = found has.second k (omega (arith, low, has.second_on.count)) in
      let below = slice_get_within has.second k d.0 d.1 in
      let a = found has.first k (omega (arith, below, all.first, all.second, counted.alike)) in
      let link = all_link held_of counted.first counted.second has.first has.second (length counted.first) counted.met counted.alike refl k (omega (arith, below, all.second, counted.alike)) a.0 d.0 a.1 d.1 in
      let learned = second_learned a.0 d.0 link pass in
      (learned.0, goes_learned d.0 b (has.second_on.each k d.0 b d.1 eb) pass learned.0 learned.1)
