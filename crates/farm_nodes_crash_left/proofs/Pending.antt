-- What a node's journal leaves of a room, with what is pending or without: it is what the journal of the room's seat may hold.
use Rattle.std.proofs.Common.{◌≡◌, ◌≢◌, ◌⊎◌, ℕ, List, [], ◌∷◌, ◌++◌, length, Option, Some, None, append-nil, append_assoc, refl, sym, ap, subst, ◌∙◌, inl, inr, arith}
use Rattle.std.proofs.lemmas.Bool.{cases_eq}
use Rattle.std.proofs.lemmas.List.{append_cancel_left}
use Rattle.paxos_core_world.specs.KeptPart.{KeptPart, with_offer}
use Rattle.paxos_core_node_steps.specs.declared.step.Step.{Step}
use Rattle.paxos_core_node_steps.specs.Would as core
use Rattle.acceptor_log_form.specs.declared.record.Record.{Record}
use Rattle.acceptor_log_form.specs.declared.record.Record.TheVariants.{Offered}
use Rattle.acceptor_log_form.specs.Leaves.{kept_in}
use Rattle.acceptor_log_form.specs.Lists.{Begins}
use Rattle.rooms_seat_state.specs.declared.act.SeatAct.{SeatAct as Asked}
use Rattle.rooms_seat_state.specs.SeatState.{SeatState}
use Rattle.rooms_seat_state.specs.Would.{would, IsAmong}
use Rattle.rooms_crash.specs.Held.{MayHold}
use Rattle.farm_nodes_turn_order.specs.Recorded.{record_of, records_of}
use Rattle.farm_nodes_turn_order.proofs.Records.{kept_other, kept_own, kept_step, room_of_step}
use Rattle.farm_nodes_turn_step.specs.declared.stop.Pending.{Pending}
use Rattle.farm_nodes_turn_step.specs.declared.stop.Pending.TheVariants.{Act, Offer}
use Rattle.farm_nodes_turn_offer.specs.Halted.{left_over}

-- one record at most: a front of it is empty or it
front_of_one : (a b ps : List Record) → ps ≡ a ++ b → ((r : Record) × (ps ≡ r ∷ [])) ⊎ (ps ≡ []) → (a ≡ []) ⊎ (a ≡ ps)
front_of_one [] b ps e one = inl refl
front_of_one (x ∷ a) b ps e (inr none) = let bad : [] ≡ x ∷ (a ++ b) = sym none ∙ e in absurd (cc)
front_of_one (x ∷ []) b ps e (inl (r, is)) =
    let same : r ∷ [] ≡ x ∷ b = sym is ∙ e in
    let head : r ≡ x = cc in
    inr (ap (λ (y : Record). y ∷ []) (sym head) ∙ sym is)
front_of_one (x ∷ y ∷ a) b ps e (inl (r, is)) =
    let long = ap length (sym is ∙ e) in absurd (omega (arith, long))

-- records from these on, up to those with one more: the one is there or not
pub with_or_without : (upto ps rs : List Record) → Begins upto rs → Begins rs (upto ++ ps) → ((r : Record) × (ps ≡ r ∷ [])) ⊎ (ps ≡ [])
    → (rs ≡ upto) ⊎ (rs ≡ upto ++ ps)
with_or_without upto ps rs first last one =
    let whole : ps ≡ first.0 ++ last.0 = append_cancel_left upto ps (first.0 ++ last.0)
    (last.1 ∙ (ap (λ (l : List Record). l ++ last.0) first.1 ∙ append_assoc upto first.0 last.0)) in
    elim (front_of_one first.0 last.0 ps whole one) [
      | inl none ↦ inl (first.1 ∙ (ap (λ (l : List Record). upto ++ l) none ∙ append-nil upto))
      | inr all ↦ inr (first.1 ∙ ap (λ (l : List Record). upto ++ l) all)
    ]

-- what may be pending with the seat t of a room: a step asked of a node of it, or an offer in it
abbrev pub MayWait : ℕ → SeatState → Pending → Type 0
MayWait room t (Act a) = IsAmong t.node.quorums.nodes a
MayWait room t (Offer r) = (bytes : List ℕ) × (r ≡ Offered room bytes)

-- the seat of room m, and records that leave what it keeps
module _ (m : ℕ) (s : SeatState) (upto : List Record) (leave : kept_in upto m ≡ s.node.kept) where
  pub holds_none : MayHold s (kept_in (upto ++ []) m)
  holds_none = inl (ap (λ (l : List Record). kept_in l m) (append-nil upto) ∙ leave)

  -- a step that is pending with the seat t of a room
  module _ (room : ℕ) (t : SeatState) (same : room ≡ m → t ≡ s) where
    step_at : (a : Asked) (step : Step) → Some step ≡ would t a → IsAmong t.node.quorums.nodes a → (room ≡ m) ⊎ (room ≢ m)
        → MayHold s (kept_in (upto ++ record_of room step ∷ []) m)
    step_at a step told among (inl e) =
        inr (inr (
          a,
          subst (λ (u : SeatState). IsAmong u.node.quorums.nodes a) (same e) among,
          kept_own upto (record_of room step) m (room_of_step room step ∙ e)
              ∙ (kept_step room step (kept_in upto m)
              ∙ (ap (λ (k : KeptPart). core.kept_by_step (Some step) k) leave
              ∙ ap (λ (x : Option Step). core.kept_by_step x s.node.kept) (told ∙ ap (λ (u : SeatState). would u a) (same e)))),
        ))
    step_at a step told among (inr d) =
        inl (kept_other upto (record_of room step) m (λ e. d (sym (room_of_step room step) ∙ e)) ∙ leave)

    step_if : (a : Asked) (told : Option Step) → told ≡ would t a → IsAmong t.node.quorums.nodes a
        → MayHold s (kept_in (upto ++ records_of room told) m)
    step_if a None e among = holds_none
    step_if a (Some step) e among = step_at a step e among (cases_eq room m)

    offer_at : (bytes : List ℕ) → (room ≡ m) ⊎ (room ≢ m) → MayHold s (kept_in (upto ++ Offered room bytes ∷ []) m)
    offer_at bytes (inl e) = inr (inl (kept_own upto (Offered room bytes) m e ∙ ap with_offer leave))
    offer_at bytes (inr d) = inl (kept_other upto (Offered room bytes) m d ∙ leave)

    pub holds_pending : (p : Pending) → MayWait room t p → MayHold s (kept_in (upto ++ left_over room t (Some p)) m)
    holds_pending (Act a) among = step_if a (would t a) refl among
    holds_pending (Offer r) of =
        subst (λ (x : Record). MayHold s (kept_in (upto ++ x ∷ []) m)) (sym of.1) (offer_at of.0 (cases_eq room m))

-- it is one record at most
pub one_at_most : (room : ℕ) (t : SeatState) (p : Option Pending) → ((r : Record) × (left_over room t p ≡ r ∷ [])) ⊎ (left_over room t p ≡ [])
one_at_most room t None = inr refl
one_at_most room t (Some (Offer r)) = inl (r, refl)
one_at_most room t (Some (Act a)) = of_step (would t a)
  where
    of_step : (told : Option Step) → ((r : Record) × (records_of room told ≡ r ∷ [])) ⊎ (records_of room told ≡ [])
    of_step None = inr refl
    of_step (Some step) = inl (record_of room step, refl)
