-- The seats of a room as it opens are of one room, and as many as its nodes.
use Rattle.std.proofs.Common.{◌≡◌, ℕ, zero, suc, ◌<◌, List, [], ◌∷◌, length, map, set, get_or, All, Option, Some, None, refl, sym, ap, subst, ◌∙◌, arith}
use Rattle.std.proofs.lemmas.List.{length_push}
use Rattle.std.proofs.lemmas.List.Elements.{All-cons, All-get_or, All-head, All-nil, All-push, All-same, All-tail, All-weaker}
use Rattle.rooms_table.specs.RoomAt.{RoomAt}
use Rattle.paxos_core_world.specs.KeptPart.{KeptPart}
use Rattle.paxos_core_world.specs.Quorum.{AreQuorums, Sizes}
use Rattle.rooms_cells.specs.Seen.{SightOf, names_of, nothing_seen, sight_at, unseen}
use Rattle.rooms_hall.specs.Claimed.{Claimed}
use Rattle.rooms_hall.specs.RoomId.{AreNumbered, RoomId}
use Rattle.rooms_words.specs.declared.view.Opening.{Opening}
use Rattle.rooms_seat_state.specs.SeatState.{opening_of}
use Rattle.rooms.specs.Opened.{offer_at, opened, opened_first, with_seen, AreOffersOf, AreOpened}
use Rattle.rooms.specs.SeatValue.{SeatValue}
use Rattle.farm_nodes_turn_passes.specs.FunctionSeat.{FunctionSeat}
use Rattle.farm_nodes_turn_passes.specs.FunctionOf.{function_of}
use Rattle.farm_nodes_open_numbers.specs.Numbered.{AreOfOneFunction, HaveOneClaim, IsOpenedRoom}

pub map-map : {A B C : Type 0} (f : B → C) (g : A → B) (xs : List A) → map f (map g xs) ≡ map (λ x. f (g x)) xs
map-map f g [] = refl
map-map f g (x ∷ xs) = ap (λ ys. f (g x) ∷ ys) (map-map f g xs)

map-set_same : {A B : Type 0} (f : A → B) (xs : List A) (j : ℕ) (y d : A) → f y ≡ f (get_or xs j d) → map f (set xs j y) ≡ map f xs
map-set_same f [] j y d e = refl
map-set_same f (x ∷ xs) zero y d e = ap (λ z. z ∷ map f xs) e
map-set_same f (x ∷ xs) (suc j) y d e = ap (λ zs. f x ∷ zs) (map-set_same f xs j y d e)

names_of-unseen : (T : Type 0) (names : List ℕ) → names_of (unseen {T = T} names) ≡ names
names_of-unseen T [] = refl
names_of-unseen T (n ∷ ns) = ap (λ ms. n ∷ ms) (names_of-unseen T ns)

-- where its words are, and the names of its cells
abbrev pub here_is : {T : Type 0} → RoomAt → List ℕ → SeatValue T → Type 0
here_is table cells s = (s.words.table ≡ table) × (names_of s.sights ≡ cells)

module _ {T : Type 0} (table : RoomAt) (cells : List ℕ) (o : Opening) where
  names_of-seen : (i : ℕ) (x : Option T) → names_of (with_seen i x (unseen {T = T} cells)) ≡ cells
  names_of-seen i None = names_of-unseen T cells
  names_of-seen i (Some x) =
      map-set_same (λ (s : SightOf T). s.cell) (unseen {T = T} cells) i record (sight_at (unseen {T = T} cells) i) { value = Some x } nothing_seen refl
      ∙ names_of-unseen T cells

  abbrev pub IsHere : SeatValue T → Type 0
  IsHere s = here_is table cells s

  is_here : (i : ℕ) (x : Option T) → IsHere (opened table cells o i x)
  is_here i x = (refl, names_of-seen i x)

  module _ (offers : List (Option T)) where
    all_here : (k : ℕ) → All IsHere (opened_first table cells o offers k)
    all_here zero = All-nil IsHere
    all_here (suc k) =
        All-push IsHere (opened_first table cells o offers k) (opened table cells o k (offer_at offers k)) (all_here k) (is_here k (offer_at offers k))

    pub so_many : (k : ℕ) → length (opened_first table cells o offers k) ≡ k
    so_many zero = refl
    so_many (suc k) =
        length_push (opened_first table cells o offers k) (opened table cells o k (offer_at offers k)) ∙ omega (arith, so_many k)

module _ {T : Type 0} (q : Sizes) (kept : List KeptPart) (offers : List (Option T)) (seats : List (SeatValue T)) (are : AreOpened q kept offers seats) where
  pub one_room : All (here_is are.table are.cells) seats
  one_room =
      All-same (IsHere {T = T} are.table are.cells (opening_of q kept)) seats (opened_first are.table are.cells (opening_of q kept) offers q.nodes) are.seats_are
      (all_here {T = T} are.table are.cells (opening_of q kept) offers q.nodes)

  pub as_many : length seats ≡ q.nodes
  as_many = ap length are.seats_are ∙ so_many {T = T} are.table are.cells (opening_of q kept) offers q.nodes

  pub some_seat : AreQuorums q → 0 < length seats
  some_seat sizes = omega (arith, sizes.least, as_many)

-- a claim of the rooms of one of them is one of each one's rooms
pub claimed_by_all : (number : ℕ) (seats : List FunctionSeat) (one : FunctionSeat) (claimed : RoomId) → AreOfOneFunction number seats → 0 < length seats → one ≡ get_or seats 0 one
    → claimed ≡ function_of one → All (λ s. function_of s ≡ claimed) seats
claimed_by_all number seats one claimed are some is named =
    let Here : FunctionSeat → Type 0 = λ s. function_of s ≡ are.rooms in
    let here : function_of one ≡ are.rooms = ap function_of is ∙ All-get_or Here seats 0 one some are.each in
    All-weaker Here (λ s. function_of s ≡ claimed) (λ s e. e ∙ sym here ∙ sym named) seats are.each

-- the rooms of one of them have the number
pub numbered_there : (number : ℕ) (seats : List FunctionSeat) (one : FunctionSeat) → AreOfOneFunction number seats → 0 < length seats → one ≡ get_or seats 0 one
    → AreNumbered number (function_of one).places
numbered_there number seats one are some is =
    let here : function_of one ≡ are.rooms = ap function_of is ∙ All-get_or (λ s. function_of s ≡ are.rooms) seats 0 one some are.each in
    subst (λ (r : RoomId). AreNumbered number r.places) (sym here) are.numbered

-- seats of one room in each pass are of one function
module _ (number : ℕ) (p1 p2 p3 p4 : RoomAt) (c1 c2 c3 c4 : List ℕ) where
  abbrev rooms : RoomId
  rooms = record { places = p1 ∷ p2 ∷ p3 ∷ p4 ∷ []; cells = c1 ∷ c2 ∷ c3 ∷ c4 ∷ [] }

  are_here : (s : FunctionSeat) → here_is p1 c1 s.first → here_is p2 c2 s.second → here_is p3 c3 s.third → here_is p4 c4 s.fourth → function_of s ≡ rooms
  are_here s a b c d = λ i. record { places = a.0 i ∷ b.0 i ∷ c.0 i ∷ d.0 i ∷ []; cells = a.1 i ∷ b.1 i ∷ c.1 i ∷ d.1 i ∷ [] }

  all_rooms : (seats : List FunctionSeat) → All (here_is p1 c1) (map (λ s. s.first) seats) → All (here_is p2 c2) (map (λ s. s.second) seats)
      → All (here_is p3 c3) (map (λ s. s.third) seats) → All (here_is p4 c4) (map (λ s. s.fourth) seats) → All (λ s. function_of s ≡ rooms) seats
  all_rooms [] a b c d = All-nil (λ s. function_of s ≡ rooms)
  all_rooms (s ∷ ss) a b c d =
      All-cons (λ t. function_of t ≡ rooms) s ss
      (are_here s (All-head (here_is p1 c1) s.first (map (λ t. t.first) ss) a) (All-head (here_is p2 c2) s.second (map (λ t. t.second) ss) b)
      (All-head (here_is p3 c3) s.third (map (λ t. t.third) ss) c) (All-head (here_is p4 c4) s.fourth (map (λ t. t.fourth) ss) d))
      (all_rooms ss (All-tail (here_is p1 c1) s.first (map (λ t. t.first) ss) a) (All-tail (here_is p2 c2) s.second (map (λ t. t.second) ss) b)
      (All-tail (here_is p3 c3) s.third (map (λ t. t.third) ss) c) (All-tail (here_is p4 c4) s.fourth (map (λ t. t.fourth) ss) d))

  pub one_function : (seats : List FunctionSeat) → All (here_is p1 c1) (map (λ s. s.first) seats) → All (here_is p2 c2) (map (λ s. s.second) seats)
      → All (here_is p3 c3) (map (λ s. s.third) seats) → All (here_is p4 c4) (map (λ s. s.fourth) seats) → AreNumbered number rooms.places → AreOfOneFunction number seats
  one_function seats a b c d numbered = record { rooms = rooms; each = all_rooms seats a b c d; numbered = numbered }

-- seats and claims side by side
pub opened_pairs : {T N : Type 0} (q : Sizes) (kept : List KeptPart) (offers : List (Option T)) (seat : N → SeatValue T) (claim : N → Claimed) (found : List N) (seats : List (SeatValue T)) → map seat found ≡ seats → HaveOneClaim (map claim found) → AreOpened q kept offers seats → IsOpenedRoom q kept offers (map (λ n. (seat n, claim n)) found)
opened_pairs {T} {N} q kept offers seat claim found seats are one opened =
    let pair : N → SeatValue T × Claimed = λ n. (seat n, claim n) in
    let firsts : map (λ (p : SeatValue T × Claimed). p.0) (map pair found) ≡ map seat found = map-map (λ (p : SeatValue T × Claimed). p.0) pair found in
    let seconds : map (λ (p : SeatValue T × Claimed). p.1) (map pair found) ≡ map claim found = map-map (λ (p : SeatValue T × Claimed). p.1) pair found in
    record {
      opened = record { table = opened.table; cells = opened.cells; size = opened.size; seats_are = firsts ∙ are ∙ opened.seats_are };
      one = record { claim = one.claim; each = All-same (λ c. c ≡ one.claim) (map (λ (p : SeatValue T × Claimed). p.1) (map pair found)) (map claim found) seconds one.each };
    }

-- the same of the nodes that hold them
pub opened_through : {T N F : Type 0} (q : Sizes) (kept : List KeptPart) (offers : List (Option T)) (show : N → SeatValue T × Claimed) (part : F → N) (nodes : List F) (seats : List N) → map part nodes ≡ seats → IsOpenedRoom q kept offers (map show seats) → IsOpenedRoom q kept offers (map (λ n. show (part n)) nodes)
opened_through {T} {N} {F} q kept offers show part nodes seats are is =
    let same : map (λ n. show (part n)) nodes ≡ map show seats = sym (map-map show part nodes) ∙ ap (map show) are in
    subst (λ (ps : List (SeatValue T × Claimed)). IsOpenedRoom q kept offers ps) (sym same) is

-- of kept parts and offers that are the same
pub as_given : {T : Type 0} (q : Sizes) (kept parts : List KeptPart) (offers here : List (Option T)) (seats : List (SeatValue T × Claimed)) → parts ≡ kept → here ≡ offers → IsOpenedRoom q parts here seats → IsOpenedRoom q kept offers seats
as_given {T} q kept parts offers here seats same given is =
    subst (λ (os : List (Option T)). IsOpenedRoom q kept os seats) given (subst (λ (k : List KeptPart). IsOpenedRoom q k here seats) same is)

pub offers_as_given : {T : Type 0} (kept parts : List KeptPart) (offers here : List (Option T)) → parts ≡ kept → here ≡ offers → AreOffersOf kept offers → AreOffersOf parts here
offers_as_given {T} kept parts offers here same given are =
    subst (λ (os : List (Option T)). AreOffersOf parts os) (sym given) (subst (λ (k : List KeptPart). AreOffersOf k offers) (sym same) are)
