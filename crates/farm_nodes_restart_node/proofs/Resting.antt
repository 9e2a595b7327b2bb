-- Seats that came back are their node's as they were, and have no ballot under way.
use Rattle.std.proofs.Common.{◌≡◌, ℕ, ◌<◌, List, length, Option, Some, None, set, sym, ap, ◌∙◌, subst, arith, inl, inr}
use Rattle.std.specs.Prelude.{slice_get}
use Rattle.std.proofs.lemmas.Bool.{cases_eq}
use Rattle.std.proofs.lemmas.List.{length-set}
use Rattle.std.proofs.lemmas.Option.{slice_get_within}
use Rattle.acceptor_log_form.specs.declared.record.Record.{Record}
use Rattle.farm_nodes_restart_seat.specs.SeatValue.{SeatValue}
use Rattle.rooms_seat_state.specs.Did.{Forgotten}
use Rattle.rooms_seat_state.specs.SeatState.{SeatState}
use Rattle.farm_nodes_turn_step.specs.OfRun.{IsOfRun, StandsInRun}
use Rattle.farm_nodes_turn_step.proofs.Keeping.{acted_opening, acted_stands, forgotten_of_run, forgotten_opening, offered_of_run}
use Rattle.farm_nodes_turn_step.specs.declared.stop.Pending.{Pending}
use Rattle.farm_nodes_turn_step.specs.declared.stop.Pending.TheVariants.{Act, Offer}
use Rattle.farm_nodes_turn_order.specs.Ordered.{IsOfOneNode}
use Rattle.farm_nodes_restart_records.specs.Numbers.{function_of, pass_of}
use Rattle.farm_nodes_restart_records.specs.Which.{Which}
use Rattle.farm_nodes_restart_records.specs.Which.TheVariants.{Constants, Expressions, Allocation, Order}
use Rattle.farm_nodes_restart_records.specs.Fours.{words_of, Four}
use Rattle.farm_nodes_restart_seat.specs.Taken.{Took}
use Rattle.farm_nodes_restart_node.specs.Returned.{AreAtRest, HasStepped, HaveForgotten, HaveReturned, IsAtRest, IsTaken, TookAt, TookIn}
use Rattle.farm_nodes_restart_seat.proofs.Places.{get_set_other, get_set_same, some_same, there_is}
use Rattle.farm_nodes_restart_records.proofs.Rooms.{same_room}
use Rattle.farm_nodes_restart_node.proofs.Afterwards.{others_words}

-- what is done with a seat, or not done, leaves it its node's, and with nothing that does not stand in its run
record Went (s t : SeatState) : Type 0 where
  pub node : IsOfOneNode s t
  pub opening : t.view.opening ≡ s.view.opening
  pub stands : IsOfRun s → StandsInRun t

-- what forgetting leaves
record Forgot (s t : SeatState) : Type 0 where
  pub node : IsOfOneNode s t
  pub ballot : t.node.ballot ≡ None
  pub opening : t.view.opening ≡ s.view.opening
  pub of_run : StandsInRun s → IsOfRun t

took_node : {T : Type 0} (IsText : List ℕ → T → Type 0) (room : ℕ) (p : Pending) (old new : SeatValue T) → Took IsText room p old new → Went old.words new.words
took_node IsText room (Act a) old new took = record {
  node = record { me = took.0.me; quorums = took.0.quorums };
  opening = acted_opening a old.words new.words took.0;
  stands = acted_stands a old.words new.words took.0;
}
took_node IsText room (Offer r) old new took = record {
  node = record { me = ap (λ (s : SeatState). s.node.me) took.4.words; quorums = ap (λ (s : SeatState). s.node.quorums) took.4.words };
  opening = ap (λ (s : SeatState). s.view.opening) took.4.words;
  stands = λ h. subst (λ (s : SeatState). StandsInRun s) (sym took.4.words) (offered_of_run old.words h).stands;
}

same_node : (s t : SeatState) → s ≡ t → Went s t
same_node s t e = record {
  node = record { me = ap (λ (u : SeatState). u.node.me) (sym e); quorums = ap (λ (u : SeatState). u.node.quorums) (sym e) };
  opening = ap (λ (u : SeatState). u.view.opening) (sym e);
  stands = λ h. subst (λ (u : SeatState). StandsInRun u) e h.stands;
}

forgotten_rest : (s t : SeatState) → Forgotten s t → Forgot s t
forgotten_rest s t forgot = record {
  node = record { me = ap (λ (u : SeatState). u.node.me) forgot.after; quorums = ap (λ (u : SeatState). u.node.quorums) forgot.after };
  ballot = ap (λ (u : SeatState). u.node.ballot) forgot.after;
  opening = forgotten_opening s t forgot;
  of_run = forgotten_of_run s t forgot;
}

four_rest : {X1 X2 X3 X4 : Type 0} (old new : Four X1 X2 X3 X4) (w : Which) → HaveForgotten old new → Forgot (words_of old w) (words_of new w)
four_rest old new Constants forgot = forgotten_rest old.constants.words new.constants.words forgot.constants.words
four_rest old new Expressions forgot = forgotten_rest old.expressions.words new.expressions.words forgot.expressions.words
four_rest old new Allocation forgot = forgotten_rest old.allocation.words new.allocation.words forgot.allocation.words
four_rest old new Order forgot = forgotten_rest old.order.words new.order.words forgot.order.words

rest_through : (s u t : SeatState) → Went s u → Forgot u t → IsAtRest s t
rest_through s u t first second = record {
  node = record { me = second.node.me ∙ first.node.me; quorums = second.node.quorums ∙ first.node.quorums };
  ballot = second.ballot;
  run = record { opening = second.opening ∙ first.opening; of_run = λ h. second.of_run (first.stands h) };
}

module _ {X1 X2 X3 X4 : Type 0} (IsText1 : List ℕ → X1 → Type 0) (IsText2 : List ℕ → X2 → Type 0)
    (IsText3 : List ℕ → X3 → Type 0) (IsText4 : List ℕ → X4 → Type 0) (room : ℕ) where
  taken_node : (w : Which) (p : Pending) (old new : Four X1 X2 X3 X4) → TookIn IsText1 IsText2 IsText3 IsText4 room w p old new → Went (words_of old w) (words_of new w)
  taken_node Constants p old new took = took_node IsText1 room p old.constants new.constants took.0
  taken_node Expressions p old new took = took_node IsText2 room p old.expressions new.expressions took.0
  taken_node Allocation p old new took = took_node IsText3 room p old.allocation new.allocation took.0
  taken_node Order p old new took = took_node IsText4 room p old.order new.order took.0

  -- each seat is its node's
  abbrev AreOne : List (Four X1 X2 X3 X4) → List (Four X1 X2 X3 X4) → Type 0
  AreOne old new = (m : ℕ) (s t : Four X1 X2 X3 X4) → slice_get old (function_of m) ≡ Some s → slice_get new (function_of m) ≡ Some t
      → Went (words_of s (pass_of m)) (words_of t (pass_of m))

  module _ (p : Pending) (old new : List (Four X1 X2 X3 X4)) (took : TookAt IsText1 IsText2 IsText3 IsText4 room p old new) where
    now_at : (f : ℕ) → slice_get new f ≡ slice_get (set old (function_of room) took.after) f
    now_at f = ap (λ (l : List (Four X1 X2 X3 X4)). slice_get l f) took.new_is

    -- with the seats of the room's function
    changed_node : (m : ℕ) → function_of m ≡ function_of room → Went (words_of took.before (pass_of m)) (words_of took.after (pass_of m))
    changed_node m same = elim (cases_eq m room) [
      | inl here ↦
          subst (λ (k : ℕ). Went (words_of took.before (pass_of k)) (words_of took.after (pass_of k))) (sym here)
          (taken_node (pass_of room) p took.before took.after took.change)
      | inr other ↦
          same_node (words_of took.before (pass_of m)) (words_of took.after (pass_of m))
          (sym (others_words IsText1 IsText2 IsText3 IsText4 room (pass_of room) (pass_of m) p took.before took.after took.change (λ e. other (same_room m room same e))))
    ]

    taken_one : AreOne old new
    taken_one m s t at now = elim (cases_eq (function_of m) (function_of room)) [
      | inl same ↦
          let before : took.before ≡ s = some_same (slice_get old (function_of m)) took.before s (ap (λ (j : ℕ). slice_get old j) same ∙ took.there) at in
          let after : took.after ≡ t =
          some_same (slice_get new (function_of m)) took.after t
          (now_at (function_of m) ∙ (ap (λ (j : ℕ). slice_get (set old (function_of room) took.after) j) same ∙ get_set_same old (function_of room) took.before took.after took.there)) now in
          subst (λ (x : Four X1 X2 X3 X4). Went (words_of x (pass_of m)) (words_of t (pass_of m))) before
          (subst (λ (x : Four X1 X2 X3 X4). Went (words_of took.before (pass_of m)) (words_of x (pass_of m))) after (changed_node m same))
      | inr apart ↦
          let same : s ≡ t =
          some_same (slice_get old (function_of m)) s t at
          (sym (get_set_other old (function_of room) (function_of m) took.after apart) ∙ (sym (now_at (function_of m)) ∙ now)) in
          same_node (words_of s (pass_of m)) (words_of t (pass_of m)) (ap (λ (x : Four X1 X2 X3 X4). words_of x (pass_of m)) same)
    ]

    taken_count : length new ≡ length old
    taken_count = ap length took.new_is ∙ length-set old (function_of room) took.after

  done_one : (p : Option Pending) (old new : List (Four X1 X2 X3 X4)) → IsTaken IsText1 IsText2 IsText3 IsText4 room p old new → AreOne old new × (length new ≡ length old)
  done_one None old new taken = absurd taken
  done_one (Some p) old new taken = (taken_one p old new taken, taken_count p old new taken)

  stepped_one : (p : Option Pending) (rs : List Record) (old new : List (Four X1 X2 X3 X4)) → HasStepped IsText1 IsText2 IsText3 IsText4 room p rs old new → AreOne old new × (length new ≡ length old)
  stepped_one p rs old new (inl done) = done_one p old new done.1
  stepped_one p rs old new (inr none) = (
    λ m s t at now.
        let same : s ≡ t = some_same (slice_get old (function_of m)) s t at (ap (λ (l : List (Four X1 X2 X3 X4)). slice_get l (function_of m)) (sym none.2) ∙ now) in
        same_node (words_of s (pass_of m)) (words_of t (pass_of m)) (ap (λ (x : Four X1 X2 X3 X4). words_of x (pass_of m)) same),
    ap length none.2,
  )

  pub at_rest : (p : Option Pending) (rs : List Record) (old new : List (Four X1 X2 X3 X4)) → HaveReturned IsText1 IsText2 IsText3 IsText4 room p rs old new → AreAtRest old new
  at_rest p rs old new back =
      let one = stepped_one p rs old back.between back.stepped in
      record {
        count = back.forgot.count ∙ one.1;
        each = λ m s t at now.
            let within : function_of m < length new = slice_get_within new (function_of m) t now in
            let u = there_is back.between (function_of m) (omega (arith, within, back.forgot.count)) in
            rest_through (words_of s (pass_of m)) (words_of u.0 (pass_of m)) (words_of t (pass_of m)) (one.0 m s u.0 at u.1)
            (four_rest u.0 t (pass_of m) (back.forgot.each (function_of m) u.0 t u.1 now));
      }
