-- Whether records leave what a node's seats keep, with the record that was pending or without.
use Rattle.std.specs.Prelude.{◌≡◌, ◌≢◌, ◌⊎◌, ℕ, ◌+◌, ◌*◌, ◌<◌, Bool, IsTrue, List, [], ◌∷◌, ◌++◌, length, Option, Some, slice_get}
use Rattle.paxos_core_world.specs.KeptPart.{KeptPart}
use Rattle.acceptor_log_form.specs.declared.errors.LogError.{LogError}
use Rattle.acceptor_log_form.specs.declared.errors.LogError.TheVariants as log
use Rattle.acceptor_log_form.specs.declared.header.Header.{Header}
use Rattle.acceptor_log_form.specs.declared.record.Record.{Record}
use Rattle.acceptor_log_form.specs.Leaves.{kept_in}
use Rattle.acceptor_log_form.specs.Order.{AreInOrder}
use Rattle.farm_nodes_turn_step.specs.declared.stop.Pending.{Pending}
use Rattle.farm_nodes_turn_passes.specs.Fours.{Four}
use Rattle.farm_nodes_turn_passes.specs.Leaves.{pending_at, Leave}
use Rattle.farm_nodes_turn_passes.specs.Texts.{Texts}
use Rattle.farm_nodes_restart_records.specs.declared.finding.Found.{Found}
use Rattle.farm_nodes_restart_records.specs.declared.finding.Found.TheVariants as found

-- behind these records stands the pending one, if there is one, and no other
abbrev pub EndsWith : List Record → List Record → List Record → Type 0
EndsWith pending front rs = (last : Record) × (pending ≡ last ∷ []) × (rs ≡ front ++ last ∷ [])

-- and it does
abbrev pub EndsSo : List Record → List Record → Type 0
EndsSo pending rs = (front : List Record) × EndsWith pending front rs

-- these stand before the last one; of none, none
abbrev pub IsButLast : List Record → List Record → Type 0
IsButLast rs front = ((rs ≡ []) × (front ≡ [])) ⊎ ((last : Record) × (rs ≡ front ++ last ∷ []))

-- so many parts are what the records leave, by room
abbrev pub ShowParts : ℕ → List KeptPart → List Record → Type 0
ShowParts rooms parts rs =
    (length parts ≡ rooms) × ((m : ℕ) → m < rooms → slice_get parts m ≡ Some (kept_in rs m))

-- what those before the last one leave
abbrev pub ShowFront : ℕ → List KeptPart → List Record → Type 0
ShowFront rooms parts rs = (front : List Record) × IsButLast rs front × ShowParts rooms parts front

-- why records are refused: memory was refused, or they are not in order
abbrev pub IsOrderFault : Header → ℕ → List Record → LogError → Type 0
IsOrderFault h rooms rs e = e ≢ log.NoMemory → (e ≡ log.BadRecord) × (AreInOrder h.nodes h.node rooms rs → ⊥)

module _ {X1 X2 X3 X4 : Type 0} where
  -- the four parts from this place on are what the seats keep
  pub record AreKeptAt (parts : List KeptPart) (place : ℕ) (s : Four X1 X2 X3 X4) : Type 0 where
    pub constants : slice_get parts place ≡ Some s.constants.words.node.kept
    pub expressions : slice_get parts (place + 1) ≡ Some s.expressions.words.node.kept
    pub allocation : slice_get parts (place + 2) ≡ Some s.allocation.words.node.kept
    pub order : slice_get parts (place + 3) ≡ Some s.order.words.node.kept

  -- the parts, by room, are what the seats of this function keep
  abbrev pub IsKeptAt : List KeptPart → List (Four X1 X2 X3 X4) → ℕ → Type 0
  IsKeptAt parts seats f = (s : Four X1 X2 X3 X4) → slice_get seats f ≡ Some s → AreKeptAt parts (4 * f) s

  -- they are what all seats keep
  abbrev pub AreKept : List KeptPart → List (Four X1 X2 X3 X4) → Type 0
  AreKept parts seats = (f : ℕ) → IsKeptAt parts seats f

  -- what parts say, of all records and of those before the last, which may be that of what is pending
  abbrev pub IsJudged : Bool → List KeptPart → List KeptPart → List (Four X1 X2 X3 X4) → Found → Type 0
  IsJudged last whole front seats found.Pending = IsTrue last × AreKept front seats
  IsJudged last whole front seats found.Whole = (IsTrue last × AreKept front seats → ⊥) × AreKept whole seats
  IsJudged last whole front seats found.Neither = (IsTrue last × AreKept front seats → ⊥) × (AreKept whole seats → ⊥)

  -- the last record is the pending one, and the others leave what the seats keep, and tell their offers
  pub record LeaveWith (texts : Texts X1 X2 X3 X4) (seats : List (Four X1 X2 X3 X4)) (room : ℕ) (p : Option Pending) (rs : List Record) : Type 0 where
    pub front : List Record
    pub ends : EndsWith (pending_at seats room p) front rs
    pub leave : Leave texts seats front

  -- they are records of other kept parts or offers, with the pending one or without
  pub record AreOther (texts : Texts X1 X2 X3 X4) (seats : List (Four X1 X2 X3 X4)) (room : ℕ) (p : Option Pending) (rs : List Record) : Type 0 where
    pub whole : Leave texts seats rs → ⊥
    pub pending : LeaveWith texts seats room p rs → ⊥

  -- which of these it is
  abbrev pub IsFound : Texts X1 X2 X3 X4 → List (Four X1 X2 X3 X4) → ℕ → Option Pending → List Record → Found → Type 0
  IsFound texts seats room p rs found.Pending = LeaveWith texts seats room p rs
  IsFound texts seats room p rs found.Whole = (LeaveWith texts seats room p rs → ⊥) × Leave texts seats rs
  IsFound texts seats room p rs found.Neither = AreOther texts seats room p rs
