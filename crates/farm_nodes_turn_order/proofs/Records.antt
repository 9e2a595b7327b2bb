-- Records of steps: what one more leaves of each room, and that a vote's value is a byte.
use Rattle.std.proofs.Common.{◌≡◌, ◌≢◌, ℕ, cond, eqb, List, [], ◌∷◌, ◌++◌, Some, refl, ap, ◌∙◌}
use Rattle.std.proofs.lemmas.Bool.{eq-eqb, ne_eqb}
use Rattle.paxos_core_world.specs.KeptPart.{KeptPart, nothing_kept}
use Rattle.paxos_core_node_steps.specs.declared.step.Step.{Step}
use Rattle.paxos_core_node_steps.specs.declared.step.Step.TheVariants as step
use Rattle.paxos_core_node_steps.specs.Would as core
use Rattle.acceptor_log_form.specs.declared.record.Record.{Record}
use Rattle.acceptor_log_form.specs.Text.{room_of}
use Rattle.acceptor_log_form.specs.Leaves.{left_from, kept_by_record, kept_in, proposed_by, proposed_in}
use Rattle.farm_nodes_turn_order.specs.Recorded.{record_of}

left_push : {A : Type 0} (by : A → Record → A) (k : A) (rs : List Record) (r : Record) (room : ℕ)
    → left_from by k (rs ++ r ∷ []) room ≡ cond (eqb (room_of r) room) (by (left_from by k rs room) r) (left_from by k rs room)
left_push by k [] r room = refl
left_push by k (x ∷ rs) r room = left_push by (cond (eqb (room_of x) room) (by k x) k) rs r room

pub left_own : {A : Type 0} (by : A → Record → A) (k : A) (rs : List Record) (r : Record) (room : ℕ) → room_of r ≡ room → left_from by k (rs ++ r ∷ []) room ≡ by (left_from by k rs room) r
left_own by k rs r room own =
    left_push by k rs r room
    ∙ ap (λ t. cond t (by (left_from by k rs room) r) (left_from by k rs room)) (eq-eqb (room_of r) room own)

pub left_other : {A : Type 0} (by : A → Record → A) (k : A) (rs : List Record) (r : Record) (room : ℕ) → room_of r ≢ room → left_from by k (rs ++ r ∷ []) room ≡ left_from by k rs room
left_other by k rs r room other =
    left_push by k rs r room
    ∙ ap (λ t. cond t (by (left_from by k rs room) r) (left_from by k rs room)) (ne_eqb (room_of r) room other)

pub kept_own : (rs : List Record) (r : Record) (room : ℕ) → room_of r ≡ room → kept_in (rs ++ r ∷ []) room ≡ kept_by_record (kept_in rs room) r
kept_own rs r room own = left_own kept_by_record nothing_kept rs r room own

pub kept_other : (rs : List Record) (r : Record) (room : ℕ) → room_of r ≢ room → kept_in (rs ++ r ∷ []) room ≡ kept_in rs room
kept_other rs r room other = left_other kept_by_record nothing_kept rs r room other

pub proposed_own : (rs : List Record) (r : Record) (room : ℕ) → room_of r ≡ room → proposed_in (rs ++ r ∷ []) room ≡ proposed_by (proposed_in rs room) r
proposed_own rs r room own = left_own proposed_by 0 rs r room own

pub proposed_other : (rs : List Record) (r : Record) (room : ℕ) → room_of r ≢ room → proposed_in (rs ++ r ∷ []) room ≡ proposed_in rs room
proposed_other rs r room other = left_other proposed_by 0 rs r room other

pub room_of_step : (room : ℕ) (s : Step) → room_of (record_of room s) ≡ room
room_of_step room (step.Start b) = refl
room_of_step room (step.Promise b) = refl
room_of_step room (step.Propose b v) = refl
room_of_step room (step.Accept b v) = refl

-- the record leaves of the room what the step leaves
pub kept_step : (room : ℕ) (s : Step) (k : KeptPart) → kept_by_record k (record_of room s) ≡ core.kept_by_step (Some s) k
kept_step room (step.Start b) k = refl
kept_step room (step.Promise b) k = refl
kept_step room (step.Propose b v) k = refl
kept_step room (step.Accept b v) k = refl
