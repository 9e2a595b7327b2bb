-- What a call that may take steps leaves of the journal, by its result.
use Rattle.std.specs.Prelude.{◌≡◌, ℕ, Bool, nat_lt, List, [], length, Result, Ok, Err}
use Rattle.durable_model.specs.declared.disk.Disk as disks
use Rattle.acceptor_log_form.specs.declared.record.Record.{Record}
use Rattle.acceptor_log.specs.declared.log.Log.{Log}
use Rattle.acceptor_log.specs.Acknowledged.{acknowledged, IsReady}
use Rattle.rooms_crash.specs.SeatState.{SeatState}
use Rattle.farm_nodes_turn_step.specs.declared.stop.Stop.{Stop}
use Rattle.farm_nodes_turn_step.specs.Noted.{pending_of}
use Rattle.farm_nodes_turn_step.specs.JournalAdvances.{JournalAdvances}

-- The journal may go on and stands for what the node keeps, and the node moved where there are more records.
pub record HasGrown {D : Type 0} (disk : disks.Ghosts D) (old new : Log D) (room : ℕ) (s t : SeatState) (answer : Bool) : Type 0 where
  pub ready : IsReady disk new
  pub advances : JournalAdvances disk old new room s t (acknowledged disk.seen new) []
  pub moved : answer ≡ nat_lt (length (acknowledged disk.seen old)) (length (acknowledged disk.seen new))

-- Where the node was stopped, the pending record is that of what it has not done.
abbrev pub Journalled : {D : Type 0} → disks.Ghosts D → Log D → Log D → ℕ → SeatState → SeatState → Result Bool Stop → Type 0
Journalled disk old new room s t (Ok moved) = HasGrown disk old new room s t moved
Journalled disk old new room s t (Err stop) =
    (upto : List Record)
    × JournalAdvances disk old new room s t upto (pending_of room t stop.pending)
