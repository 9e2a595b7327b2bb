-- Rooms that opened, once there is one function more.
use Rattle.std.proofs.Common.{◌≡◌, ◌≢◌, ◌⊎◌, inl, inr, ℕ, zero, suc, ◌+◌, ◌*◌, ◌/◌, ◌%◌, ◌<◌, ◌≤◌, List, length, map, All, Option, refl, sym, ap, subst, ◌∙◌, arith}
use Rattle.std.specs.Global.{Vec}
use Rattle.std.proofs.lemmas.Bool.{cases_eq}
use Rattle.paxos_core_world.specs.KeptPart.{KeptPart}
use Rattle.paxos_core_world.specs.Quorum.{Sizes}
use Rattle.rooms_hall.specs.Claimed.{Claimed}
use Rattle.rooms_hall.specs.declared.hall.Naming as naming
use Rattle.rooms.specs.Opened.{AreOffersOf}
use Rattle.rooms.specs.SeatValue.{SeatValue}
use Rattle.farm_nodes_turn_passes.specs.Numbers.{function_of, room_at}
use Rattle.farm_nodes_turn_passes.specs.NumberedSeat.{NumberedSeat}
use Rattle.farm_nodes_turn_passes.specs.declared.which.Which.{Which}
use Rattle.farm_nodes_turn_passes.specs.declared.which.Which.TheVariants.{Constants, Expressions, Allocation, Order}
use Rattle.farm_nodes_open_lists.specs.Rows.{column, grown, offers_of, rows_of, AreForOthers}
use Rattle.farm_nodes_open_lists.proofs.Columns.{column_front, column_last, grown_long}
use Rattle.farm_nodes_open_numbers.specs.Kept.{kept_of, AreSettled, AreSettledBefore, IsSettledIn}
use Rattle.farm_nodes_open_numbers.specs.Left.{AreLeftIn}
use Rattle.farm_nodes_open_numbers.specs.Numbered.{IsOpenedRoom}
use Rattle.farm_nodes_open_numbers.proofs.Left.{left_settled}
use Rattle.farm_nodes_open_rooms.specs.Function.{Offered, AreTaken, IsOpenFunction}
use Rattle.farm_nodes_open_rooms.specs.Opened.{AreOfferedIn, AreOpenedIn, IsSettledBefore}

-- the offers for functions from this one on are those that were given
abbrev pub AreLeft : {T : Type 0} → ℕ → List (List (Option T)) → List (List (Option T)) → Type 0
AreLeft n given left = (f : ℕ) → n ≤ f → offers_of left f ≡ offers_of given f

left_next : {T : Type 0} (n : ℕ) (given left rest : List (List (Option T))) → AreLeft n given left → AreForOthers n left rest → AreLeft (n + 1) given rest
left_next n given left rest are others f above = others f (λ e. omega (arith, e, above)) ∙ are f (omega (arith, above))

-- so they are of all passes
pub record AllLeft (n : ℕ) (given left : Offered) : Type 0 where
  pub constants : AreLeft n (rows_of given.constants.items) (rows_of left.constants.items)
  pub expressions : AreLeft n (rows_of given.expressions.items) (rows_of left.expressions.items)
  pub allocation : AreLeft n (rows_of given.allocation.items) (rows_of left.allocation.items)
  pub order : AreLeft n (rows_of given.order.items) (rows_of left.order.items)

pub none_taken : (given : Offered) → AllLeft 0 given given
none_taken given = record { constants = λ f above. refl; expressions = λ f above. refl; allocation = λ f above. refl; order = λ f above. refl }

pub all_left_next : (n : ℕ) (given left rest : Offered) → AllLeft n given left → AreTaken n left rest → AllLeft (n + 1) given rest
all_left_next n given left rest are taken = record {
  constants = left_next n (rows_of given.constants.items) (rows_of left.constants.items) (rows_of rest.constants.items) are.constants taken.constants;
  expressions = left_next n (rows_of given.expressions.items) (rows_of left.expressions.items) (rows_of rest.expressions.items) are.expressions taken.expressions;
  allocation = left_next n (rows_of given.allocation.items) (rows_of left.allocation.items) (rows_of rest.allocation.items) are.allocation taken.allocation;
  order = left_next n (rows_of given.order.items) (rows_of left.order.items) (rows_of rest.order.items) are.order taken.order;
}

-- those for the next function are offers of the room
pub offers_here : {T : Type 0} (kept : List (Vec KeptPart)) (pass : Which) (functions n : ℕ) (given left : List (List (Option T))) → AreOfferedIn kept pass functions given → n < functions → AreLeft n given left → AreOffersOf (kept_of kept (room_at n pass)) (offers_of left n)
offers_here kept pass functions n given left are low left_are =
    subst (λ os. AreOffersOf (kept_of kept (room_at n pass)) os) (sym (left_are n (omega arith))) (are n low)

-- the rooms of a pass are open up to one function more
module _ {T N : Type 0} (q : Sizes) (kept : List (Vec KeptPart)) (pass : Which) (given : List (List (Option T))) (show : N → SeatValue T × Claimed) where
  opened_next : (n : ℕ) (left : List (List (Option T))) (rows more : List (List N)) (seats : List N) → length seats ≡ length rows → All (λ row. length row ≡ n) rows → more ≡ grown rows seats → AreLeft n given left
      → IsOpenedRoom q (kept_of kept (room_at n pass)) (offers_of left n) (map show seats) → AreOpenedIn q kept pass n given show rows → AreOpenedIn q kept pass (n + 1) given show more
  opened_next n left rows more seats same long is left_are now before f low = on (cases_eq f n)
    where
      Opened : List N → Type 0
      Opened xs = IsOpenedRoom q (kept_of kept (room_at f pass)) (offers_of given f) (map show xs)

      on : (f ≡ n) ⊎ (f ≢ n) → IsOpenedRoom q (kept_of kept (room_at f pass)) (offers_of given f) (map show (column more f))
      on (inl e) =
          let of_here : IsOpenedRoom q (kept_of kept (room_at n pass)) (offers_of given n) (map show seats) =
          subst (λ os. IsOpenedRoom q (kept_of kept (room_at n pass)) os (map show seats)) (left_are n (omega arith)) now in
          let of_f : Opened seats = subst (λ k. IsOpenedRoom q (kept_of kept (room_at k pass)) (offers_of given k) (map show seats)) (sym e) of_here in
          let there : column more f ≡ seats = ap (λ k. column more k) e ∙ ap (λ m. column m n) is ∙ column_last n rows seats same long in
          subst Opened (sym there) of_f
      on (inr ne) =
          let front : f < n = omega (arith, low, ne) in
          subst Opened (sym (ap (λ m. column m f) is ∙ column_front n rows seats f front long)) (before f front)

-- rooms of the functions so far
module _ (q : Sizes) (kept : List (Vec KeptPart)) where
  abbrev pub AreSettledSoFar : ℕ → Type 0
  AreSettledSoFar n = (f : ℕ) → f < n → AreSettled q kept f

  pub settled_next : (n : ℕ) → AreSettledSoFar n → AreSettled q kept n → AreSettledSoFar (n + 1)
  settled_next n before now f low = on (cases_eq f n)
    where
      on : (f ≡ n) ⊎ (f ≢ n) → AreSettled q kept f
      on (inl e) = subst (λ k. AreSettled q kept k) (sym e) now
      on (inr ne) = before f (omega (arith, low, ne))

  -- the pass of a room has a place, by which the room is that of its function
  of_place : (m : ℕ) (k : ℕ) → m % 4 ≡ k → k < 4 → (pass : Which) × (m ≡ room_at (m / 4) pass)
  of_place m zero is low = (Constants, omega (arith, is))
  of_place m (suc zero) is low = (Expressions, omega (arith, is))
  of_place m (suc (suc zero)) is low = (Allocation, omega (arith, is))
  of_place m (suc (suc (suc zero))) is low = (Order, omega (arith, is))
  of_place m (suc (suc (suc (suc k)))) is low = absurd (omega (arith, low))

  pub before_room : (n room : ℕ) → AreSettledSoFar n → function_of room ≡ n → AreSettledBefore q kept n room → IsSettledBefore q kept room
  before_room n room so_far is here m low = on (cases_eq (m / 4) n)
    where
      found : (pass : Which) × (m ≡ room_at (m / 4) pass)
      found = of_place m (m % 4) refl (omega arith)

      on : (m / 4 ≡ n) ⊎ (m / 4 ≢ n) → IsSettledIn q kept m
      on (inl e) =
          let at : m ≡ room_at n found.0 = found.1 ∙ ap (λ k. room_at k found.0) e in
          subst (λ k. IsSettledIn q kept k) (sym at) (here found.0 (omega (arith, low, at)))
      on (inr ne) =
          let front : m / 4 < n = omega (arith, low, ne, is) in
          subst (λ k. IsSettledIn q kept k) (sym found.1) (so_far (m / 4) front found.0)

  -- a room that a run has left is settled
  pub settled_again : (functions room : ℕ) → function_of room < functions → AreLeftIn q kept functions → IsSettledIn q kept room
  settled_again functions room low left =
      let found : (pass : Which) × (room ≡ room_at (room / 4) pass) = of_place room (room % 4) refl (omega arith) in
      subst (λ k. IsSettledIn q kept k) (sym found.1) (left_settled q (kept_of kept (room_at (room / 4) found.0)) (left (room / 4) found.0 low))

  -- the first room of a function
  pub before_first : (n room : ℕ) → AreSettledSoFar n → room ≡ 4 * n → IsSettledBefore q kept room
  before_first n room so_far is m low =
      let found : (pass : Which) × (m ≡ room_at (m / 4) pass) = of_place m (m % 4) refl (omega arith) in
      let front : m / 4 < n = omega (arith, low, is) in
      subst (λ k. IsSettledIn q kept k) (sym found.1) (so_far (m / 4) front found.0)

-- the rooms of the functions so far are open
module _ {H : Type 0} {h : naming.Ghosts H} where
  pub record AreOpen (q : Sizes) (kept : List (Vec KeptPart)) (n : ℕ) (given : Offered) (rows : List (List (NumberedSeat H h))) : Type 0 where
    pub long : All (λ row. length row ≡ n) rows
    pub constants : AreOpenedIn q kept Constants n (rows_of given.constants.items) (λ (s : NumberedSeat H h). (s.seat.first, s.claim)) rows
    pub expressions : AreOpenedIn q kept Expressions n (rows_of given.expressions.items) (λ (s : NumberedSeat H h). (s.seat.second, s.claim)) rows
    pub allocation : AreOpenedIn q kept Allocation n (rows_of given.allocation.items) (λ (s : NumberedSeat H h). (s.seat.third, s.claim)) rows
    pub order : AreOpenedIn q kept Order n (rows_of given.order.items) (λ (s : NumberedSeat H h). (s.seat.fourth, s.claim)) rows
    pub settled : AreSettledSoFar q kept n

  pub none_open : (q : Sizes) (kept : List (Vec KeptPart)) (given : Offered) (rows : List (List (NumberedSeat H h))) → All (λ row. length row ≡ 0) rows → AreOpen q kept 0 given rows
  none_open q kept given rows none = record {
    long = none;
    constants = λ f low. absurd (omega (arith, low));
    expressions = λ f low. absurd (omega (arith, low));
    allocation = λ f low. absurd (omega (arith, low));
    order = λ f low. absurd (omega (arith, low));
    settled = λ f low. absurd (omega (arith, low));
  }

  pub open_next : (q : Sizes) (kept : List (Vec KeptPart)) (n : ℕ) (given left : Offered) (rows more : List (List (NumberedSeat H h))) (seats : List (NumberedSeat H h)) → length rows ≡ length kept → more ≡ grown rows seats → AllLeft n given left → IsOpenFunction q kept n left seats → AreOpen q kept n given rows → AreOpen q kept (n + 1) given more
  open_next q kept n given left rows more seats count is left_are now before =
      let same : length seats ≡ length rows = now.count ∙ sym count in
      record {
        long = subst (λ (m : List (List (NumberedSeat H h))). All (λ row. length row ≡ n + 1) m) (sym is) (grown_long n rows seats same before.long);
        constants =
            opened_next q kept Constants (rows_of given.constants.items) (λ (s : NumberedSeat H h). (s.seat.first, s.claim)) n (rows_of left.constants.items) rows more seats
            same before.long is left_are.constants now.constants before.constants;
        expressions =
            opened_next q kept Expressions (rows_of given.expressions.items) (λ (s : NumberedSeat H h). (s.seat.second, s.claim)) n (rows_of left.expressions.items) rows more seats
            same before.long is left_are.expressions now.expressions before.expressions;
        allocation =
            opened_next q kept Allocation (rows_of given.allocation.items) (λ (s : NumberedSeat H h). (s.seat.third, s.claim)) n (rows_of left.allocation.items) rows more seats
            same before.long is left_are.allocation now.allocation before.allocation;
        order =
            opened_next q kept Order (rows_of given.order.items) (λ (s : NumberedSeat H h). (s.seat.fourth, s.claim)) n (rows_of left.order.items) rows more seats
            same before.long is left_are.order now.order before.order;
        settled = settled_next q kept n before.settled now.settled;
      }
