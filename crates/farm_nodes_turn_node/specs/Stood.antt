-- What stands behind a turn of a node: what it tells, why it is stopped, and what its journal holds.
use Rattle.std.specs.Prelude.{◌≡◌, ℕ, nat_lt, List, ◌++◌, length, Option, Some, None, slice_get, IfSome}
use Rattle.durable_model.specs.declared.disk.Disk as disks
use Rattle.durable_model.specs.Moments.{LeavesOnly}
use Rattle.acceptor_log_form.specs.declared.record.Record.{Record}
use Rattle.acceptor_log_form.specs.Lists.{Begins, Between}
use Rattle.acceptor_log.specs.declared.log.Log.{Log}
use Rattle.acceptor_log.specs.Acknowledged.{acknowledged}
use Rattle.farm_nodes_turn_function.specs.Fault.{Fault}
use Rattle.farm_nodes_turn_function.specs.Halted.{HasHaltCause}
use Rattle.farm_nodes_turn_function.specs.Played.{progress_of}
use Rattle.farm_nodes_turn_function.specs.Which.{Which}
use Rattle.farm_nodes_turn_function.specs.Fours.{Four, words_of}
use Rattle.farm_nodes_turn_function.specs.Offers.{ConstantsOffer, ExpressionsOffer, AllocationOffer, OrderOffer}
use Rattle.farm_nodes_turn_function.specs.Texts.{Texts, pass_texts}
use Rattle.farm_nodes_turn_node.specs.declared.halted.Halted.{Halted}
use Rattle.farm_nodes_turn_node.specs.declared.turn.Turn.{Turn}
use Rattle.farm_nodes_turn_node.specs.Held.{IsJournalOf, pending_in}
use Rattle.farm_nodes_turn_node.specs.Told.{turn_of}

-- so it is, in the sight of f, of the element at this place
abbrev pub At : {X Y : Type 0} → (X → Y) → (Y → Type 0) → ℕ → List X → Type 0
At {X} f P at xs = (x : X) → slice_get xs at ≡ Some x → P (f x)

module _ {D T1 T2 T3 T4 : Type 0} where
  -- why a node is stopped, where it is
  abbrev pub Stops : disks.Ghosts D → (Four T1 T2 T3 T4 → Type 0) → Log D → Log D → List Record → Option Fault → Four T1 T2 T3 T4 → Four T1 T2 T3 T4 → Type 0
  Stops disk TooLarge old new pending failure s t =
      IfSome failure (λ fault. HasHaltCause disk (TooLarge s) old new pending fault)

  -- What it tells is what was learned in the turn, and whether the journal has more records.
  abbrev pub IsToldOfTurn : (D → List ℕ) → Log D → Log D → Which → Turn → Four T1 T2 T3 T4 → Four T1 T2 T3 T4 → Type 0
  IsToldOfTurn seen old new pass turn s t =
      turn ≡ turn_of (progress_of (words_of s pass).node.learned (words_of t pass).node.learned
      (nat_lt (length (acknowledged seen old)) (length (acknowledged seen new))))

  -- From the old journal, which stood for what the node kept, to the new one: that stands for what it keeps now, as the records do
  -- that were acknowledged before and a list of this turn's behind them. A crash at any moment of the turn leaves the journal from
  -- before with a beginning of those and of the pending one.
  pub record TurnsBy (texts : Texts T1 T2 T3 T4) (disk : disks.Ghosts D) (old new : Log D) (seats : List (Four T1 T2 T3 T4)) (halted : Option Halted) : Type 0 where
    pub upto : List Record
    pub longer : Begins (acknowledged disk.seen old) upto
    pub stands : IsJournalOf texts disk new seats halted upto
    pub all : halted ≡ None → upto ≡ acknowledged disk.seen new
    pub any_moment : LeavesOnly disk.moment disk.left_since old.disk new.disk
        (Between old.header (acknowledged disk.seen old) (upto ++ pending_in seats halted))

-- the same with the texts of the passes' offers as they are
abbrev pub TurnsInto : {D : Type 0} → disks.Ghosts D → Log D → Log D
    → List (Four ConstantsOffer ExpressionsOffer AllocationOffer OrderOffer) → Option Halted → Type 0
TurnsInto disk old new seats halted = TurnsBy pass_texts disk old new seats halted
