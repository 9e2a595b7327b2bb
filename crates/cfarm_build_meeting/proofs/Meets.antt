-- Two nodes of a list that met, as their seats by number.
use Rattle.std.proofs.Common.{◌≡◌, ◌≢◌, ◌<◌, ℕ, zero, suc, List, [], ◌∷◌, length, Option, Some, sym, ap, subst, ◌∙◌, arith}
use Rattle.std.specs.List.{AllByRecursion}
use Rattle.std.specs.Prelude.{slice_get, unwrap_or}
use Rattle.rooms_hall.specs.declared.hall.Naming as naming
use Rattle.farm_nodes_meet_seats.specs.Functions.{AreOne, MetIn}
use Rattle.farm_nodes_meet_seats.specs.Held.{held_of}
use Rattle.farm_nodes_meet_seats.specs.Lists.{HaveMetAll, IsOneAt}
use Rattle.farm_nodes_meet_seats.specs.Meeting.{HaveMet}
use Rattle.farm_nodes_turn_node.specs.Fours.{four_of, fours_of, words_of}
use Rattle.farm_nodes_turn_node.specs.NumberedSeat.{NumberedSeat}
use Rattle.farm_nodes_turn_node.specs.Which.{Which}
use Rattle.farm_nodes_turn_node.specs.Which.TheVariants.{Constants, Expressions, Allocation, Order}
use Rattle.farm_nodes_turn_node.proofs.Places.{map_at, map_length, map_same, mapped}
use Rattle.farm_nodes_meetings.specs.Meetings.{FunctionSeats, NodeSeats}
use Rattle.cfarm_build_meeting.specs.Twice.{AreOfFunctions, MeetAt, by_number, seats_in}

-- what is so of all is so of the one at a place
pub all_here : {A : Type 0} (P : A → Type 0) (xs : List A) (i : ℕ) (x : A) → AllByRecursion P xs → slice_get xs i ≡ Some x → P x
all_here P [] i x all e = absurd (cc e)
all_here P (y ∷ ys) zero x all e = subst P (let same : y ≡ x = cc e in same) all.0
all_here P (y ∷ ys) (suc i) x all e = all_here P ys i x all.1 e

module _ {H : Type 0} {h : naming.Ghosts H} where
  met_words : (a b a' b' : NumberedSeat H h) → MetIn (held_of a) (held_of b) (held_of a') (held_of b') → AreOne (held_of a) (held_of b) → (pass : Which)
      → HaveMet (words_of (four_of a) pass) (words_of (four_of b) pass) (words_of (four_of a') pass) (words_of (four_of b') pass)
  met_words a b a' b' met one Constants = met.constants.met one.constants
  met_words a b a' b' met one Expressions = met.expressions.met one.expressions
  met_words a b a' b' met one Allocation = met.allocation.met one.allocation
  met_words a b a' b' met one Order = met.order.met one.order

  met_at : (xs ys xs' ys' : List (NumberedSeat H h)) (count : ℕ) → HaveMetAll xs ys xs' ys' count held_of → length xs ≡ length ys
      → ((k : ℕ) → IsOneAt held_of xs ys k) → (f : ℕ) (pass : Which) (a b a' b' : FunctionSeats) → slice_get (fours_of xs) f ≡ Some a → slice_get (fours_of ys) f ≡ Some b
      → slice_get (fours_of xs') f ≡ Some a' → slice_get (fours_of ys') f ≡ Some b'
      → HaveMet (words_of a pass) (words_of b pass) (words_of a' pass) (words_of b' pass)
  met_at xs ys xs' ys' count met alike one f pass a b a' b' ea eb ea' eb' =
      let x = mapped (λ (s : NumberedSeat H h). four_of s) xs f a ea in
      let y = mapped (λ (s : NumberedSeat H h). four_of s) ys f b eb in
      let x' = mapped (λ (s : NumberedSeat H h). four_of s) xs' f a' ea' in
      let y' = mapped (λ (s : NumberedSeat H h). four_of s) ys' f b' eb' in
      let all = met.met alike in
      let words = met_words x.0 y.0 x'.0 y'.0 (all.each f x.0 y.0 x'.0 y'.0 x.1 y.1 x'.1 y'.1) (one f x.0 y.0 x.1 y.1) pass in
      subst (λ (t : FunctionSeats). HaveMet (words_of t pass) (words_of b pass) (words_of a' pass) (words_of b' pass)) x.2
      (subst (λ (t : FunctionSeats). HaveMet (words_of (four_of x.0) pass) (words_of t pass) (words_of a' pass) (words_of b' pass)) y.2
      (subst (λ (t : FunctionSeats). HaveMet (words_of (four_of x.0) pass) (words_of (four_of y.0) pass) (words_of t pass) (words_of b' pass)) x'.2
      (subst (λ (t : FunctionSeats). HaveMet (words_of (four_of x.0) pass) (words_of (four_of y.0) pass) (words_of (four_of x'.0) pass) (words_of t pass)) y'.2 words)))

module _ {N H : Type 0} {h : naming.Ghosts H} (seats : N → List (NumberedSeat H h)) where
  -- a node's seats, by its number
  pub seats_of : (nodes : List N) (i : ℕ) (n : N) → slice_get nodes i ≡ Some n → by_number (seats_in seats nodes) i ≡ fours_of (seats n)
  seats_of nodes i n e = ap (λ (o : Option NodeSeats). unwrap_or o []) (map_at (λ (x : N). fours_of (seats x)) nodes i n e)

  pub functions_at : (functions : ℕ) (nodes : List N) (i : ℕ) (n : N) → AreOfFunctions functions (seats_in seats nodes) → slice_get nodes i ≡ Some n
      → length (seats n) ≡ functions
  functions_at functions nodes i n all e =
      sym (map_length (λ (s : NumberedSeat H h). four_of s) (seats n))
      ∙ all_here (λ (s : NodeSeats). length s ≡ functions) (seats_in seats nodes) i (fours_of (seats n)) all (map_at (λ (x : N). fours_of (seats x)) nodes i n e)

  module _ (old new : List N) (number : ℕ) (n m n' m' : N) (count : ℕ) (met : HaveMetAll (seats n) (seats m) (seats n') (seats m') count held_of)
      (next : suc number < length old) (first : slice_get old number ≡ Some n) (second : slice_get old (suc number) ≡ Some m)
      (now_first : slice_get new number ≡ Some n') (now_second : slice_get new (suc number) ≡ Some m')
      (others : (k : ℕ) → k ≢ number → k ≢ suc number → slice_get new k ≡ slice_get old k) where
    pub meets : MeetAt seats old new number
    meets q functions nodes all one =
        let xs = functions_at functions old number n all first in
        let ys = functions_at functions old (suc number) m all second in
        let alike : length (seats n) ≡ length (seats m) = xs ∙ sym ys in
        let both = met.met alike in
        record {
          two = λ e. omega (arith, e);
          first = omega (arith, next, nodes);
          second = omega (arith, next, nodes);
          first_count = ap (λ (s : NodeSeats). length s) (seats_of new number n' now_first)
              ∙ (map_length (λ (s : NumberedSeat H h). four_of s) (seats n') ∙ (both.first ∙ xs));
          second_count = ap (λ (s : NodeSeats). length s) (seats_of new (suc number) m' now_second)
              ∙ (map_length (λ (s : NumberedSeat H h). four_of s) (seats m') ∙ (both.second ∙ ys));
          met = λ f pass a b a' b' ea eb ea' eb'.
              met_at (seats n) (seats m) (seats n') (seats m') count met alike (one n m first second) f pass a b a' b'
              (ap (λ (s : NodeSeats). slice_get s f) (sym (seats_of old number n first)) ∙ ea)
              (ap (λ (s : NodeSeats). slice_get s f) (sym (seats_of old (suc number) m second)) ∙ eb)
              (ap (λ (s : NodeSeats). slice_get s f) (sym (seats_of new number n' now_first)) ∙ ea')
              (ap (λ (s : NodeSeats). slice_get s f) (sym (seats_of new (suc number) m' now_second)) ∙ eb');
          others = λ k c d. ap (λ (o : Option NodeSeats). unwrap_or o []) (map_same (λ (x : N). fours_of (seats x)) new old k (others k c d));
        }
