-- What is told of each refusal.
use Rattle.std.proofs.Common.{◌≡◌, ◌≢◌, ℕ, refl}
use Rattle.acceptor_log_form.specs.declared.errors.LogError.{LogError}
use Rattle.acceptor_log_form.specs.declared.errors.LogError.TheVariants as log
use Rattle.farm_nodes_open_rooms.specs.RoomFault.{RoomFault}
use Rattle.farm_nodes_open_rooms.specs.RoomFault.TheVariants as room
use Rattle.farm_nodes_open_stored.specs.RecordFault.{RecordFault}
use Rattle.farm_nodes_open_stored.specs.RecordFault.TheVariants as entry
use Rattle.farm_nodes_open_seats.specs.declared.fault.OpenFault.TheVariants.{Journal, Refused, Room}
use Rattle.farm_nodes_open_seats.specs.Faults.{fault_of_journal, fault_of_records, fault_of_room}

-- a journal's own fault
pub record IsJournals (node : ℕ) (fault : LogError) (i : ℕ) (e : LogError) : Type 0 where
  pub node_is : node ≡ i
  pub fault_is : fault ≡ e
  pub no_memory : fault ≢ log.NoMemory

pub journals_fault : (node : ℕ) (fault : LogError) (i : ℕ) (e : LogError) → fault_of_journal node fault ≡ Journal i e → IsJournals node fault i e
journals_fault node log.NoMemory i e told = absurd (cc)
journals_fault node log.Device i e told = record { node_is = cc; fault_is = cc; no_memory = λ bad. absurd (cc) }
journals_fault node log.NotAJournal i e told = record { node_is = cc; fault_is = cc; no_memory = λ bad. absurd (cc) }
journals_fault node log.BadRecord i e told = record { node_is = cc; fault_is = cc; no_memory = λ bad. absurd (cc) }
journals_fault node log.OtherSource i e told = record { node_is = cc; fault_is = cc; no_memory = λ bad. absurd (cc) }
journals_fault node log.Stopped i e told = record { node_is = cc; fault_is = cc; no_memory = λ bad. absurd (cc) }
journals_fault node log.Full i e told = record { node_is = cc; fault_is = cc; no_memory = λ bad. absurd (cc) }

-- and no other
pub no_refusal : (node : ℕ) (fault : LogError) (i : ℕ) → fault_of_journal node fault ≡ Refused i → ⊥
no_refusal node log.NoMemory i told = absurd (cc)
no_refusal node log.Device i told = absurd (cc)
no_refusal node log.NotAJournal i told = absurd (cc)
no_refusal node log.BadRecord i told = absurd (cc)
no_refusal node log.OtherSource i told = absurd (cc)
no_refusal node log.Stopped i told = absurd (cc)
no_refusal node log.Full i told = absurd (cc)

pub no_room : (node : ℕ) (fault : LogError) (m : ℕ) (f : RoomFault) → fault_of_journal node fault ≡ Room m f → ⊥
no_room node log.NoMemory m f told = absurd (cc)
no_room node log.Device m f told = absurd (cc)
no_room node log.NotAJournal m f told = absurd (cc)
no_room node log.BadRecord m f told = absurd (cc)
no_room node log.OtherSource m f told = absurd (cc)
no_room node log.Stopped m f told = absurd (cc)
no_room node log.Full m f told = absurd (cc)

-- a fault of what stands in a journal
pub records_bad : (node : ℕ) (fault : RecordFault) (i : ℕ) (e : LogError) → fault_of_records node fault ≡ Journal i e → (fault ≡ entry.BadRecord) × (node ≡ i) × (e ≡ log.BadRecord)
records_bad node entry.NoMemory i e told = absurd (cc)
records_bad node entry.BadRecord i e told = (refl, cc, cc)
records_bad node entry.Refused i e told = absurd (cc)

pub records_refused : (node : ℕ) (fault : RecordFault) (i : ℕ) → fault_of_records node fault ≡ Refused i → (fault ≡ entry.Refused) × (node ≡ i)
records_refused node entry.NoMemory i told = absurd (cc)
records_refused node entry.BadRecord i told = absurd (cc)
records_refused node entry.Refused i told = (refl, cc)

pub records_no_room : (node : ℕ) (fault : RecordFault) (m : ℕ) (f : RoomFault) → fault_of_records node fault ≡ Room m f → ⊥
records_no_room node entry.NoMemory m f told = absurd (cc)
records_no_room node entry.BadRecord m f told = absurd (cc)
records_no_room node entry.Refused m f told = absurd (cc)

-- a fault of a room
pub rooms_fault : (number : ℕ) (fault : RoomFault) (m : ℕ) (f : RoomFault) → fault_of_room number fault ≡ Room m f → (number ≡ m) × (fault ≡ f) × (fault ≢ room.NoMemory)
rooms_fault number room.NoMemory m f told = absurd (cc)
rooms_fault number room.Unsettled m f told = (cc, cc, λ bad. absurd (cc))
rooms_fault number room.CellRefused m f told = (cc, cc, λ bad. absurd (cc))
rooms_fault number room.Spent m f told = (cc, cc, λ bad. absurd (cc))

pub room_no_journal : (number : ℕ) (fault : RoomFault) (i : ℕ) (e : LogError) → fault_of_room number fault ≡ Journal i e → ⊥
room_no_journal number room.NoMemory i e told = absurd (cc)
room_no_journal number room.Unsettled i e told = absurd (cc)
room_no_journal number room.CellRefused i e told = absurd (cc)
room_no_journal number room.Spent i e told = absurd (cc)

pub room_no_refusal : (number : ℕ) (fault : RoomFault) (i : ℕ) → fault_of_room number fault ≡ Refused i → ⊥
room_no_refusal number room.NoMemory i told = absurd (cc)
room_no_refusal number room.Unsettled i told = absurd (cc)
room_no_refusal number room.CellRefused i told = absurd (cc)
room_no_refusal number room.Spent i told = absurd (cc)
