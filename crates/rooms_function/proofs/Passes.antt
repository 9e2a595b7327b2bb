-- The four passes of a function by their numbers.
use Rattle.std.proofs.Common.{◌≡◌, ◌≢◌, ◌⊎◌, inl, inr, ℕ, zero, suc, ◌+◌, ◌<◌, ◌≤◌, List, [], ◌∷◌, length, map, take, Option, Ok, Err, IfOk, Result, refl, sym, ap, subst, ◌∙◌, arith}
use Rattle.std.proofs.lemmas.Bool.{cases_eq}
use Rattle.std.proofs.lemmas.List.{length-map, length_push}
use Rattle.paxos_core_world.specs.KeptPart.{KeptPart}
use Rattle.paxos_core_world.specs.Quorum.{Sizes}
use Rattle.paxos_core_world.specs.Settled.{Settled}
use Rattle.paxos_core_world.specs.World.{nodes_of}
use Rattle.rooms.specs.Opening.{Opening}
use Rattle.rooms.specs.RoomAt.{RoomAt}
use Rattle.rooms.specs.SeatState.{opening_of}
use Rattle.rooms.specs.Dealing.{room_opened, Dealing}
use Rattle.rooms.specs.FourDealers.{FourDealers}
use Rattle.rooms.specs.Opened.{offer_at, opened, opened_first, AreDealt, AreFit, AreOffersOf}
use Rattle.rooms.proofs.Filled.{fit_offers}
use Rattle.rooms.specs.SeatValue.{SeatValue}
use Rattle.rooms.specs.declared.error.RoomError.{RoomError}
use Rattle.rooms.specs.declared.error.RoomError.TheVariants.{CellRefused, NoMemory, Unsettled}
use Rattle.rooms_function.specs.Opened.{kept_of_pass, place, seven_parts, AreDealersOf, AreDealtBy, AreFresh, AreSeatsOf, AreSettled, IsLowest, IsOfferedIn, IsSettledIn, IsUndealt, IsUnopened}
use Rattle.rooms_function.specs.declared.opening.FunctionOffers.{FunctionOffers}
use Rattle.rooms_function.specs.declared.seat.FunctionSeat.{FunctionSeat}

-- ---- what was kept

-- the first so many of seven are those that there are
pub first_parts : (parts : List KeptPart) → length parts ≤ 7 → take (length parts) (seven_parts parts) ≡ parts
first_parts [] le = refl
first_parts (a ∷ []) le = refl
first_parts (a ∷ b ∷ []) le = refl
first_parts (a ∷ b ∷ c ∷ []) le = refl
first_parts (a ∷ b ∷ c ∷ d ∷ []) le = refl
first_parts (a ∷ b ∷ c ∷ d ∷ e ∷ []) le = refl
first_parts (a ∷ b ∷ c ∷ d ∷ e ∷ f ∷ []) le = refl
first_parts (a ∷ b ∷ c ∷ d ∷ e ∷ f ∷ g ∷ []) le = refl
first_parts (a ∷ b ∷ c ∷ d ∷ e ∷ f ∷ g ∷ h ∷ parts) le = absurd (omega arith)

module _ (kept : List (List KeptPart)) where
  pub many : (pass : ℕ) → length (kept_of_pass pass kept) ≡ length kept
  many pass = length-map kept (λ parts. nodes_of parts pass)

  -- the row of a pass, up to the number of the nodes
  pub row_is : (pass n : ℕ) (row : List KeptPart) → row ≡ seven_parts (kept_of_pass pass kept) → length kept ≡ n → n ≤ 7 → take n row ≡ kept_of_pass pass kept
  row_is pass n row e size most =
      let many_here : length (kept_of_pass pass kept) ≡ n = many pass ∙ size in
      ap (λ (r : List KeptPart). take n r) e
      ∙ subst (λ (m : ℕ). take m (seven_parts (kept_of_pass pass kept)) ≡ kept_of_pass pass kept) many_here (first_parts (kept_of_pass pass kept) (omega (arith, many_here, most)))

-- ---- in front of a pass

module _ (q : Sizes) (kept : List (List KeptPart)) where
  abbrev pub InFront : ℕ → Type 0
  InFront pass = (other : ℕ) → other < pass → IsSettledIn q kept other

  pub in_front : (pass : ℕ) → InFront pass → IsSettledIn q kept pass → InFront (pass + 1)
  in_front pass front here other lt = at (cases_eq other pass)
    where
      at : (other ≡ pass) ⊎ (other ≢ pass) → IsSettledIn q kept other
      at (inl e) = subst (λ (p : ℕ). IsSettledIn q kept p) (sym e) here
      at (inr d) = front other (omega (arith, lt, d))

  pub lowest : (pass : ℕ) → pass < 4 → InFront pass → ¬ IsSettledIn q kept pass → IsLowest q kept (pass + 1)
  lowest pass lt front not_here =
      record {
        some = omega arith;
        most = omega (arith, lt);
        before = λ other less. front other (omega (arith, less));
        here = λ other e s. let same : other ≡ pass = omega (arith, e) in not_here (subst (λ (p : ℕ). IsSettledIn q kept p) same s);
      }

  -- the row of a pass in which all is settled is so itself
  pub settled_row : (pass n : ℕ) (row : List KeptPart) → row ≡ seven_parts (kept_of_pass pass kept) → length kept ≡ n → n ≤ 7 → IsSettledIn q kept pass → Settled q (nodes_of (take n row))
  settled_row pass n row e size most s = subst (λ (k : List KeptPart). Settled q (nodes_of k)) (sym (row_is kept pass n row e size most)) s

-- they are the dealers of the rooms of these kept parts
pub dealers_ok : {E : Type 0} (number : ℕ) (q : Sizes) (kept : List (List KeptPart)) (r : Result FourDealers E) (a b c d : List KeptPart) → a ≡ kept_of_pass 0 kept → b ≡ kept_of_pass 1 kept → c ≡ kept_of_pass 2 kept → d ≡ kept_of_pass 3 kept
    → IfOk r (λ all. all.first ≡ room_opened all.first.table.table number 4 0 q a) → IfOk r (λ all. all.second ≡ room_opened all.first.table.table number 4 1 q b)
    → IfOk r (λ all. all.third ≡ room_opened all.first.table.table number 4 2 q c) → IfOk r (λ all. all.fourth ≡ room_opened all.first.table.table number 4 3 q d) → IfOk r (λ all. AreDealersOf number q kept all)
dealers_ok number q kept (Err x) a b c d ea eb ec ed first second third fourth = tt
dealers_ok number q kept (Ok all) a b c d ea eb ec ed first second third fourth =
    record {
      first = first ∙ ap (λ (k : List KeptPart). room_opened all.first.table.table number 4 0 q k) ea;
      second = second ∙ ap (λ (k : List KeptPart). room_opened all.first.table.table number 4 1 q k) eb;
      third = third ∙ ap (λ (k : List KeptPart). room_opened all.first.table.table number 4 2 q k) ec;
      fourth = fourth ∙ ap (λ (k : List KeptPart). room_opened all.first.table.table number 4 3 q k) ed;
    }

-- ---- what is dealt

module _ {T : Type 0} (table : RoomAt) (cells : List ℕ) (o : Opening) (offers : List (Option T)) where
  pub so_many : (k : ℕ) → length (opened_first table cells o offers k) ≡ k
  so_many zero = refl
  so_many (suc k) =
      length_push (opened_first table cells o offers k) (opened table cells o k (offer_at offers k)) ∙ omega (arith, so_many k)

pub dealt_many : {T : Type 0} (table : RoomAt) (o : Opening) (offers : List (Option T)) (seats : List (SeatValue T)) → AreDealt table o offers seats → length seats ≡ o.quorums.nodes
dealt_many {T} table o offers seats d = ap length d.seats_are ∙ so_many {T = T} table d.cells o offers o.quorums.nodes

pub dealt_same : {T : Type 0} (table : RoomAt) (o : Opening) (offers : List (Option T)) (seats others : List (SeatValue T)) → others ≡ seats → AreDealt table o offers seats → AreDealt table o offers others
dealt_same {T} table o offers seats others e d = subst (λ (ss : List (SeatValue T)). AreDealt table o offers ss) (sym e) d

-- ---- from kept parts to seats

module _ (number : ℕ) (q : Sizes) (kept : List (List KeptPart)) (offers : FunctionOffers) (all : FourDealers) (are : AreDealersOf number q kept all) (nodes : length kept ≡ q.nodes) where
  fit : {T : Type 0} (room : ℕ) (parts : List KeptPart) (os : List (Option T)) (d : Dealing) → d ≡ room_opened all.first.table.table number 4 room q parts → length parts ≡ length kept
      → AreOffersOf parts os → AreFit d.opening os
  fit {T} room parts os d e size of = fit_offers {T = T} q parts os d.opening (size ∙ nodes) (ap (λ (x : Dealing). x.opening) e) of

  pub fresh : AreOffersOf (kept_of_pass 0 kept) offers.first.items → AreOffersOf (kept_of_pass 1 kept) offers.second.items
      → AreOffersOf (kept_of_pass 2 kept) offers.third.items → AreOffersOf (kept_of_pass 3 kept) offers.fourth.items → AreFresh all offers
  fresh o1 o2 o3 o4 =
      let c1 : all.first.opening.quorums.nodes ≡ q.nodes = ap (λ (d : Dealing). d.opening.quorums.nodes) are.first in
      let c2 : all.second.opening.quorums.nodes ≡ q.nodes = ap (λ (d : Dealing). d.opening.quorums.nodes) are.second in
      let c3 : all.third.opening.quorums.nodes ≡ q.nodes = ap (λ (d : Dealing). d.opening.quorums.nodes) are.third in
      let c4 : all.fourth.opening.quorums.nodes ≡ q.nodes = ap (λ (d : Dealing). d.opening.quorums.nodes) are.fourth in
      record {
        next1 = ap (λ (d : Dealing). d.next) are.first;
        next2 = ap (λ (d : Dealing). d.next) are.second;
        next3 = ap (λ (d : Dealing). d.next) are.third;
        next4 = ap (λ (d : Dealing). d.next) are.fourth;
        count2 = c2 ∙ sym c1;
        count3 = c3 ∙ sym c1;
        count4 = c4 ∙ sym c1;
        offers1 = o1.size ∙ (many kept 0 ∙ (nodes ∙ sym c1));
        offers2 = o2.size ∙ (many kept 1 ∙ (nodes ∙ sym c2));
        offers3 = o3.size ∙ (many kept 2 ∙ (nodes ∙ sym c3));
        offers4 = o4.size ∙ (many kept 3 ∙ (nodes ∙ sym c4));
        fit1 = fit 0 (kept_of_pass 0 kept) offers.first.items all.first are.first (many kept 0) o1;
        fit2 = fit 1 (kept_of_pass 1 kept) offers.second.items all.second are.second (many kept 1) o2;
        fit3 = fit 2 (kept_of_pass 2 kept) offers.third.items all.third are.third (many kept 2) o3;
        fit4 = fit 3 (kept_of_pass 3 kept) offers.fourth.items all.fourth are.fourth (many kept 3) o4;
      }

  dealt_at : {T : Type 0} (room : ℕ) (parts : List KeptPart) (os : List (Option T)) (d : Dealing) (seats : List (SeatValue T)) → d ≡ room_opened all.first.table.table number 4 room q parts
      → AreDealt d.table d.opening os seats → AreDealt (place all.first.table.table number room) (opening_of q parts) os seats
  dealt_at {T} room parts os d seats e h = subst (λ (x : Dealing). AreDealt x.table x.opening os seats) e h

  pub seats_are : (seats : List FunctionSeat) → AreDealtBy all offers seats → AreSeatsOf number q kept offers seats
  seats_are seats h =
      record {
        table = all.first.table.table;
        first = dealt_at 0 (kept_of_pass 0 kept) offers.first.items all.first (map (λ s. s.first) seats) are.first h.first;
        second = dealt_at 1 (kept_of_pass 1 kept) offers.second.items all.second (map (λ s. s.second) seats) are.second h.second;
        third = dealt_at 2 (kept_of_pass 2 kept) offers.third.items all.third (map (λ s. s.third) seats) are.third h.third;
        fourth = dealt_at 3 (kept_of_pass 3 kept) offers.fourth.items all.fourth (map (λ s. s.fourth) seats) are.fourth h.fourth;
      }

-- ---- what is told

module _ (q : Sizes) (kept : List (List KeptPart)) (offers : FunctionOffers) (pass : ℕ) (why : RoomError) where
  -- there no seat was dealt yet
  pub told_undealt : IsUndealt q kept pass why → IsUnopened q kept offers pass why
  told_undealt (inl h) =
      record {
        some = h.1.some;
        most = h.1.most;
        settled = λ no. absurd (no h.0);
        before = h.1.before;
        here = λ _. h.1.here;
        refused = λ e. absurd (let bad : Unsettled ≡ CellRefused = sym h.0 ∙ e in cc);
      }
  told_undealt (inr h) =
      record {
        some = omega (arith, h.1.0);
        most = omega (arith, h.1.0);
        settled = λ _. h.1.1;
        before = λ other lt. absurd (omega (arith, lt, h.1.0));
        here = λ e. absurd (let bad : NoMemory ≡ Unsettled = sym h.0 ∙ e in cc);
        refused = λ e. absurd (let bad : NoMemory ≡ CellRefused = sym h.0 ∙ e in cc);
      }

  -- there all were settled
  pub told_after : (0 < pass) × (pass ≤ 4) → AreSettled q kept → why ≢ Unsettled → (why ≡ CellRefused → IsOfferedIn offers pass)
      → IsUnopened q kept offers pass why
  told_after is settled never refused =
      record {
        some = is.0;
        most = is.1;
        settled = λ _. settled;
        before = λ other lt. settled other (omega (arith, lt, is.1));
        here = λ e. absurd (never e);
        refused = refused;
      }
