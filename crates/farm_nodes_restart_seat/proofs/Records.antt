-- What a record leaves of the room is what is left once its step is taken, or its offer made.
use Rattle.std.proofs.Common.{◌≡◌, ℕ, true, List, [], ◌∷◌, Option, Some, None, refl, sym, ap, ◌∙◌}
use Rattle.paxos_core_node_steps.specs.declared.step.Step.{Step}
use Rattle.paxos_core_node_steps.specs.declared.step.Step.TheVariants as step
use Rattle.acceptor_log_form.specs.declared.record.Record.{Record}
use Rattle.acceptor_log_form.specs.Text.{room_of}
use Rattle.acceptor_log_form.specs.Leaves.{kept_by_record}
use Rattle.rooms_seat_state.specs.declared.act.SeatAct.{SeatAct as Asked}
use Rattle.rooms_seat_state.specs.SeatState.{SeatState}
use Rattle.rooms_seat_state.specs.Would.{would, Acted}
use Rattle.paxos_core_world.specs.KeptPart.{KeptPart}
use Rattle.paxos_core_node_steps.specs.Would as core
use Rattle.rooms_cells.specs.Seen.{SightOf, value_at}
use Rattle.farm_nodes_turn_offer.specs.SeatValue.{SeatValue, offer_of}
use Rattle.farm_nodes_turn_offer.specs.Told.{offer_by, IsOwnText, IsToldAs}
use Rattle.farm_nodes_turn_offer.proofs.Told.{offer_acted}
use Rattle.farm_nodes_turn_offer.specs.FarmNodesTurnStepPending.{Pending}
use Rattle.farm_nodes_turn_offer.specs.FarmNodesTurnStepPending.TheVariants.{Act, Offer}
use Rattle.farm_nodes_turn_offer.specs.Noted.{pending_of, record_of, records_of}
use Rattle.farm_nodes_turn_offer.proofs.Records.{room_of_step}
use Rattle.farm_nodes_turn_offer.proofs.Steps.{step_kept}
use Rattle.farm_nodes_turn_offer.proofs.Leavings.{offer_kept}
use Rattle.farm_nodes_restart_seat.specs.Taken.{HasForgotten, Took}

-- the record is of the room, and leaves of it what the seat then keeps
abbrev pub IsRecordOf : ℕ → SeatState → SeatState → Record → Type 0
IsRecordOf room s t last = (room_of last ≡ room) × (kept_by_record s.node.kept last ≡ t.node.kept)

step_record : (room : ℕ) (s t : SeatState) (a : Asked) (o : Option Step) (last : Record) → o ≡ would s a → Acted a s t → records_of room o ≡ last ∷ [] → IsRecordOf room s t last
step_record room s t a None last is acted e = absurd (cc)
step_record room s t a (Some x) last is acted e =
    let same : record_of room x ≡ last = cc in
    (ap room_of (sym same) ∙ room_of_step room x, step_kept room s t a x last is (sym same) acted)

pub took_record : {T : Type 0} (IsText : List ℕ → T → Type 0) (room : ℕ) (p : Pending) (old new : SeatValue T) (last : Record) → Took IsText room p old new → pending_of room old.words p ≡ last ∷ [] → IsRecordOf room old.words new.words last
took_record IsText room (Act a) old new last took e = step_record room old.words new.words a (would old.words a) last refl took.0 e
took_record IsText room (Offer r) old new last took e =
    let same : r ≡ last = cc in
    let is = sym same ∙ took.2 in
    (ap room_of is, offer_kept room took.1 took.0 last old new is took.4)

pub forgotten_kept : {T : Type 0} (old new : SeatValue T) → HasForgotten old new → new.words.node.kept ≡ old.words.node.kept
forgotten_kept old new forgot = ap (λ (s : SeatState). s.node.kept) forgot.words.after

-- ---- the text of its offer

offered_by : (o : Option Step) (k : KeptPart) → (core.kept_by_step o k).offered ≡ k.offered
offered_by None k = refl
offered_by (Some (step.Start b)) k = refl
offered_by (Some (step.Promise b)) k = refl
offered_by (Some (step.Propose b v)) k = refl
offered_by (Some (step.Accept b v)) k = refl

-- the record that is done tells the text of the offer that stands then
pub took_told : {T : Type 0} (IsText : List ℕ → T → Type 0) (room : ℕ) (p : Pending) (old new : SeatValue T) (last : Record) (told : Option (List ℕ)) → Took IsText room p old new → pending_of room old.words p ≡ last ∷ []
    → (old.words.node.kept.offered ≡ true → IsToldAs (IsOwnText IsText old) told) → new.words.node.kept.offered ≡ true → IsToldAs (IsOwnText IsText new) (offer_by told last)
took_told {T} IsText room (Act a) old new last told took e had now =
    let stays : new.words.node.kept.offered ≡ old.words.node.kept.offered = ap (λ (k : KeptPart). k.offered) took.0.kept ∙ offered_by (would old.words a) old.words.node.kept in
    let is = had (sym stays ∙ now) in
    let me : new.words.node.me ≡ old.words.node.me = took.0.me in (
      is.0,
      offer_acted told room (would old.words a) last e ∙ is.1,
      (is.2.0, ap (λ (ss : List (SightOf T)). value_at ss new.words.node.me) took.1 ∙ (ap (λ (j : ℕ). value_at old.sights j) me ∙ is.2.1), is.2.2),
    )
took_told {T} IsText room (Offer r) old new last told took e had now =
    let same : r ≡ last = cc in
    (took.1, ap (λ (q : Record). offer_by told q) (sym same ∙ took.2), (took.0, ap (λ (s : SeatState). offer_of new s.node.me) took.4.words ∙ took.4.own, took.3))

pub forgotten_own : {T : Type 0} (IsText : List ℕ → T → Type 0) (old new : SeatValue T) → HasForgotten old new → (text : List ℕ) → IsOwnText IsText old text → IsOwnText IsText new text
forgotten_own {T} IsText old new forgot text own =
    (own.0, ap (λ (ss : List (SightOf T)). value_at ss new.words.node.me) forgot.sights ∙ (ap (λ (s : SeatState). value_at old.sights s.node.me) forgot.words.after ∙ own.1), own.2)
