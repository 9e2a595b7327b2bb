-- Nodes that met, and all of whose functions were counted, have learned one number in each room.
use Rattle.std.proofs.Common.{◌≡◌, ℕ, zero, suc, ◌<◌, List, length, Some, refl, sym, ap, ◌∙◌, arith}
use Rattle.std.specs.Prelude.{slice_get}
use Rattle.std.proofs.lemmas.Option.{slice_get_within}
use Rattle.rooms_hall.specs.declared.hall.Naming as naming
use Rattle.farm_nodes_meet_seats.specs.Functions.{BothLink, MetIn}
use Rattle.farm_nodes_meet_seats.specs.Held.{held_of}
use Rattle.farm_nodes_turn_node.specs.Fours.{four_of, words_of}
use Rattle.farm_nodes_turn_node.specs.NumberedSeat.{NumberedSeat}
use Rattle.farm_nodes_turn_node.specs.Which.{Which}
use Rattle.farm_nodes_turn_node.specs.Which.TheVariants.{Constants, Expressions, Allocation, Order}
use Rattle.farm_nodes_meet_seats.proofs.Places.{all_link}
use Rattle.farm_nodes_turn_node.proofs.Places.{found}
use Rattle.cfarm_build.specs.Alike.{HaveCounted}
use Rattle.cfarm_build.specs.Neighbours.{EachTwo}
use Rattle.cfarm_build_meeting.proofs.Learned.{counted_learned, first_learned, goes_learned, same_learned, second_learned}

module _ {H : Type 0} {h : naming.Ghosts H} where
  one_value : (a b a' b' : NumberedSeat H h) → MetIn (held_of a) (held_of b) (held_of a') (held_of b') → BothLink (held_of a') (held_of b') → (pass : Which)
      → (v u : ℕ) → (words_of (four_of a') pass).node.learned ≡ Some v → (words_of (four_of b') pass).node.learned ≡ Some u → v ≡ u
  one_value a b a' b' met link Constants v u ev eu = (met.constants.one (met.constants.room.1 link.constants.room)).value v u ev eu
  one_value a b a' b' met link Expressions v u ev eu = (met.expressions.one (met.expressions.room.1 link.expressions.room)).value v u ev eu
  one_value a b a' b' met link Allocation v u ev eu = (met.allocation.one (met.allocation.room.1 link.allocation.room)).value v u ev eu
  one_value a b a' b' met link Order v u ev eu = (met.order.one (met.order.room.1 link.order.room)).value v u ev eu

  -- the number that neighbours learned
  neighbours_one : (xs ys : List (NumberedSeat H h)) → HaveCounted xs ys → (k : ℕ) (a b : NumberedSeat H h) → slice_get xs k ≡ Some a → slice_get ys k ≡ Some b
      → (pass : Which) (v u : ℕ) → (words_of (four_of a) pass).node.learned ≡ Some v → (words_of (four_of b) pass).node.learned ≡ Some u → v ≡ u
  neighbours_one xs ys has k a b ea eb pass v u ev eu =
      let counted = has.counted in
      let all = counted.met.met counted.alike in
      let low = slice_get_within xs k a ea in
      let c = found has.first k (omega (arith, low, has.first_on.count)) in
      let high = slice_get_within ys k b eb in
      let d = found has.second k (omega (arith, high, has.second_on.count)) in
      let below = slice_get_within has.first k c.0 c.1 in
      let c' = found counted.first k (omega (arith, below, all.first)) in
      let d' = found counted.second k (omega (arith, below, all.first, counted.alike)) in
      let link = all_link held_of counted.first counted.second has.first has.second (length counted.first) counted.met counted.alike refl k (omega (arith, below, all.first)) c.0 d.0 c.1 d.1 in
      let met = all.each k c'.0 d'.0 c.0 d.0 c'.1 d'.1 c.1 d.1 in
      let w = first_learned c.0 d.0 link pass in
      let x = second_learned c.0 d.0 link pass in
      let left = same_learned (words_of (four_of a) pass) v w.0 ev (goes_learned c.0 a (has.first_on.each k c.0 a c.1 ea) pass w.0 w.1) in
      let right = same_learned (words_of (four_of b) pass) x.0 u (goes_learned d.0 b (has.second_on.each k d.0 b d.1 eb) pass x.0 x.1) eu in
      left ∙ (one_value c'.0 d'.0 c.0 d.0 met link pass w.0 x.0 w.1 x.1 ∙ right)

module _ {N H : Type 0} {h : naming.Ghosts H} (seats : N → List (NumberedSeat H h)) (nodes : List N) (functions : ℕ)
    (long : (i : ℕ) (n : N) → slice_get nodes i ≡ Some n → length (seats n) ≡ functions)
    (counted : EachTwo (λ n m. HaveCounted (seats n) (seats m)) nodes) (f : ℕ) (pass : Which) where
  -- node i has learned this there
  pub record HasNumber (i v : ℕ) : Type 0 where
    pub node : N
    pub there : slice_get nodes i ≡ Some node
    pub seat : NumberedSeat H h
    pub at : slice_get (seats node) f ≡ Some seat
    pub learned : (words_of (four_of seat) pass).node.learned ≡ Some v

  next_one : (i v u : ℕ) → HasNumber i v → HasNumber (suc i) u → v ≡ u
  next_one i v u a b = neighbours_one (seats a.node) (seats b.node) (counted i a.node b.node a.there b.there) f a.seat b.seat a.at b.at pass v u a.learned b.learned

  has_number : (i : ℕ) (m : N) → slice_get nodes (suc i) ≡ Some m → f < functions → (v : ℕ) × HasNumber (suc i) v
  has_number i m e low =
      let below = slice_get_within nodes (suc i) m e in
      let n = found nodes i (omega (arith, below)) in
      let s = found (seats m) f (omega (arith, low, long (suc i) m e)) in
      let v = counted_learned (seats n.0) (seats m) (counted i n.0 m n.1 e) f s.0 s.1 pass in
      (v.0, record { node = m; there = e; seat = s.0; at = s.1; learned = v.1 })

  -- as node 0's
  as_first : (i : ℕ) (w v : ℕ) → f < functions → HasNumber 0 w → HasNumber i v → w ≡ v
  as_first zero w v low a b =
      let one_node : a.node ≡ b.node = let same : Some a.node ≡ Some b.node = sym a.there ∙ b.there in cc in
      let one_seat : a.seat ≡ b.seat = let same : Some a.seat ≡ Some b.seat = sym a.at ∙ (ap (λ (n : N). slice_get (seats n) f) one_node ∙ b.at) in cc in
      same_learned (words_of (four_of b.seat) pass) w v (ap (λ (s : NumberedSeat H h). (words_of (four_of s) pass).node.learned) (sym one_seat) ∙ a.learned) b.learned
  as_first (suc zero) w v low a b = next_one 0 w v a b
  as_first (suc (suc i)) w v low a b =
      let below = slice_get_within nodes (suc (suc i)) b.node b.there in
      let n = found nodes (suc i) (omega (arith, below)) in
      let u = has_number i n.0 n.1 low in
      as_first (suc i) w u.0 low a u.1 ∙ next_one (suc i) u.0 v u.1 b

  pub one_number : (i j w v u : ℕ) → f < functions → HasNumber 0 w → HasNumber i v → HasNumber j u → v ≡ u
  one_number i j w v u low first a b = sym (as_first i w v low first a) ∙ as_first j w u low first b
