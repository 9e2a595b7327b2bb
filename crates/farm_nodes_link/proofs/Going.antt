-- Where seats meet they go on.
use Rattle.std.proofs.Common.{◌≡◌, ℕ, List, length, Some, refl, sym, ap, subst, ◌∙◌, arith, inl, inr}
use Rattle.std.specs.Prelude.{slice_get}
use Rattle.std.proofs.lemmas.Bool.{cases_eq}
use Rattle.std.proofs.lemmas.Option.{slice_get_within}
use Rattle.rooms_hall.specs.declared.hall.Naming as naming
use Rattle.rooms_cells.specs.Seen.{names_of}
use Rattle.farm_nodes_turn_node.proofs.Keeping.{goes_meeting, goes_same, goes_through, goes_to}
use Rattle.farm_nodes_turn_node.proofs.Places.{found}
use Rattle.farm_nodes_meet_seats.specs.Held.{Numbered, held_of}
use Rattle.farm_nodes_meet_seats.specs.Functions as functions
use Rattle.farm_nodes_meet_seats.specs.Lists.{HaveMetAll}
use Rattle.farm_nodes_meet_seats.specs.Meeting.{Remains}
use Rattle.farm_nodes_meet_seats.specs.NumberedSeat.{NumberedSeat}
use Rattle.farm_nodes_meet_seats.specs.OfRun.{GoesOn}
use Rattle.farm_nodes_meet_seats.specs.Rooms.{MetIn}
use Rattle.farm_nodes_meet_seats.specs.SeatValue.{SeatValue}
use Rattle.farm_nodes_link.specs.Going.{FunctionGoesOn, SeatGoesOn, SeatsGoOn}

-- one seat
module _ {T : Type 0} where
  seat_stands : (s : SeatValue T) → SeatGoesOn s s
  seat_stands s = record { room = record { table = refl; cells = refl }; me = refl; kept = refl; learned = λ v e. e; run = goes_same s.words }

  seat_through : (s t u : SeatValue T) → SeatGoesOn s t → SeatGoesOn t u → SeatGoesOn s u
  seat_through s t u a b = record {
    room = record { table = b.room.table ∙ a.room.table; cells = b.room.cells ∙ a.room.cells };
    me = b.me ∙ a.me;
    kept = b.kept ∙ a.kept;
    learned = λ v e. b.learned v (a.learned v e);
    run = goes_through s.words t.words u.words a.run b.run;
  }

  seat_remains : (s t : SeatValue T) → Remains s.words t.words → t.sights ≡ s.sights → GoesOn s.words t.words → SeatGoesOn s t
  seat_remains s t remains sights goes =
      record { room = record { table = remains.table; cells = ap (λ l. names_of l) sights }; me = remains.me; kept = remains.kept; learned = remains.learned; run = goes }

  -- two that met, or that are of two rooms
  seats_meet : (a b a' b' : Numbered T) → MetIn a b a' b' → SeatGoesOn a.seat a'.seat × SeatGoesOn b.seat b'.seat
  seats_meet a b a' b' met = elim (cases_eq a.claim.number b.claim.number) [
    | inl same ↦
        let goes = goes_meeting a.seat.words b.seat.words a'.seat.words b'.seat.words (met.met (met.number.1 same)) in (
          seat_remains a.seat a'.seat met.first_remains met.first_sights goes.0,
          seat_remains b.seat b'.seat met.second_remains met.second_sights goes.1,
        )
    | inr other ↦
        let still = met.apart (λ one. other (met.number.0 one)) in (
          seat_remains a.seat a'.seat met.first_remains met.first_sights (goes_to a.seat.words a'.seat.words (ap (λ (s : SeatValue T). s.words) still.0)),
          seat_remains b.seat b'.seat met.second_remains met.second_sights (goes_to b.seat.words b'.seat.words (ap (λ (s : SeatValue T). s.words) still.1)),
        )
  ]

-- all seats of a node
module _ {H : Type 0} {h : naming.Ghosts H} where
  function_stands : (s : NumberedSeat H h) → FunctionGoesOn s s
  function_stands s =
      record { number = refl; constants = seat_stands s.seat.first; expressions = seat_stands s.seat.second; allocation = seat_stands s.seat.third; order = seat_stands s.seat.fourth }

  function_through : (s t u : NumberedSeat H h) → FunctionGoesOn s t → FunctionGoesOn t u → FunctionGoesOn s u
  function_through s t u a b = record {
    number = b.number ∙ a.number;
    constants = seat_through s.seat.first t.seat.first u.seat.first a.constants b.constants;
    expressions = seat_through s.seat.second t.seat.second u.seat.second a.expressions b.expressions;
    allocation = seat_through s.seat.third t.seat.third u.seat.third a.allocation b.allocation;
    order = seat_through s.seat.fourth t.seat.fourth u.seat.fourth a.order b.order;
  }

  functions_meet : (a b a' b' : NumberedSeat H h) → functions.MetIn (held_of a) (held_of b) (held_of a') (held_of b') → FunctionGoesOn a a' × FunctionGoesOn b b'
  functions_meet a b a' b' met =
      let one = seats_meet (held_of a).constants (held_of b).constants (held_of a').constants (held_of b').constants met.constants in
      let two = seats_meet (held_of a).expressions (held_of b).expressions (held_of a').expressions (held_of b').expressions met.expressions in
      let three = seats_meet (held_of a).allocation (held_of b).allocation (held_of a').allocation (held_of b').allocation met.allocation in
      let four = seats_meet (held_of a).order (held_of b).order (held_of a').order (held_of b').order met.order in (
        record { number = met.constants.first_number; constants = one.0; expressions = two.0; allocation = three.0; order = four.0 },
        record { number = met.constants.second_number; constants = one.1; expressions = two.1; allocation = three.1; order = four.1 },
      )

  one_item : (xs : List (NumberedSeat H h)) (k : ℕ) (a b : NumberedSeat H h) → slice_get xs k ≡ Some a → slice_get xs k ≡ Some b → a ≡ b
  one_item xs k a b e f = let same : Some a ≡ Some b = sym e ∙ f in cc

  -- no meeting
  pub go_nowhere : (xs : List (NumberedSeat H h)) → SeatsGoOn xs xs
  go_nowhere xs = record { count = refl; each = λ k a b e f. subst (λ s. FunctionGoesOn a s) (one_item xs k a b e f) (function_stands a) }

  -- meetings behind meetings
  pub go_through : (xs ys zs : List (NumberedSeat H h)) → SeatsGoOn xs ys → SeatsGoOn ys zs → SeatsGoOn xs zs
  go_through xs ys zs one two = record {
    count = two.count ∙ one.count;
    each = λ k a c e f.
        let below = slice_get_within xs k a e in
        let b = found ys k (omega (arith, below, one.count)) in
        function_through a b.0 c (one.each k a b.0 e b.1) (two.each k b.0 c b.1 f);
  }

  -- a meeting
  module _ (xs ys xs' ys' : List (NumberedSeat H h)) (count : ℕ) (met : HaveMetAll xs ys xs' ys' count held_of) where
    pub both_on : SeatsGoOn xs xs' × SeatsGoOn ys ys'
    both_on = elim (cases_eq (length xs) (length ys)) [
      | inl alike ↦
          let all = met.met alike in (
            record {
              count = all.first;
              each = λ k a a' e e'.
                  let below = slice_get_within xs k a e in
                  let b = found ys k (omega (arith, below, alike)) in let b' = found ys' k (omega (arith, below, alike, all.second)) in
                  (functions_meet a b.0 a' b'.0 (all.each k a b.0 a' b'.0 e b.1 e' b'.1)).0;
            },
            record {
              count = all.second;
              each = λ k b b' e e'.
                  let below = slice_get_within ys k b e in
                  let a = found xs k (omega (arith, below, alike)) in let a' = found xs' k (omega (arith, below, alike, all.first)) in
                  (functions_meet a.0 b a'.0 b' (all.each k a.0 b a'.0 b' a.1 e a'.1 e')).1;
            },
          )
      | inr other ↦ (
        subst (λ l. SeatsGoOn xs l) (sym (met.unlike other).0) (go_nowhere xs),
        subst (λ l. SeatsGoOn ys l) (sym (met.unlike other).1) (go_nowhere ys),
      )
    ]
