-- What holds of records that are put down at once.
use Rattle.std.specs.Prelude.{ℕ, List, [], ◌∷◌, ◌++◌, take}
use Rattle.acceptor_log_form.specs.declared.record.Record.{Record}
use Rattle.acceptor_log_form.specs.Text.{room_of}
use Rattle.acceptor_log_form.specs.Leaves.{kept_in}
use Rattle.farm_nodes_sweep_records.specs.Pending.{Seats, NoneOf, AreApart, StandFor, MayPut, ArePending, TakesStep, LeftWith}

-- nothing is pending at first
abbrev pub BeginsWithNone : Type 0
BeginsWithNone = (seats : Seats) (n i rooms : ℕ) (rs : List Record) → StandFor seats n i rooms rs → ArePending seats n i rooms rs []

-- a record more is staged: of a step that its seat may take next, in a room of which nothing is pending
abbrev pub Stages : Type 0
Stages =
    (seats : Seats) (n i rooms : ℕ) (rs pending : List Record) (r : Record) → ArePending seats n i rooms rs pending
    → NoneOf (room_of r) pending → MayPut seats n i rooms r → ArePending seats n i rooms rs (pending ++ r ∷ [])

-- the first of what is pending is taken in its seat, and the others are pending behind it
abbrev pub TakesFirst : Type 0
TakesFirst =
    (before after : Seats) (n i rooms : ℕ) (rs pending : List Record) (r : Record)
    → ArePending before n i rooms rs (r ∷ pending) → TakesStep before after r → ArePending after n i rooms (rs ++ r ∷ []) pending

-- a front of them leaves of each room what was there, or that with one record of the room
abbrev pub FrontsLeave : Type 0
FrontsLeave =
    (rs pending : List Record) (k m : ℕ) → AreApart pending → LeftWith rs pending m (kept_in (rs ++ take k pending) m)
