-- Two nodes of a farm that meet, and what a meeting leaves of each.
use Rattle.std.specs.Prelude.{◌≡◌, ◌≢◌, ◌⊎◌, ℕ, None}
use Rattle.durable_model.specs.declared.disk.Disk as disks
use Rattle.rooms_hall.specs.declared.hall.Naming as naming
use Rattle.farm_nodes_turn_node.specs.declared.farm_node.FarmNode.{FarmNode}
use Rattle.farm_nodes_meet_seats.specs.Fours.{fours_of}
use Rattle.farm_nodes_turn_node.specs.Held.{IsSoundNode}
use Rattle.farm_nodes_turn_node.specs.Waiting.{IsWaiting}
use Rattle.farm_nodes_meet_seats.specs.Held.{held_of}
use Rattle.farm_nodes_meet_seats.specs.Lists as lists

module _ {D O H : Type 0} {h : naming.Ghosts H} where
  -- one of the two is stopped
  abbrev pub IsOneStopped : FarmNode D O H h → FarmNode D O H h → Type 0
  IsOneStopped first second = (first.halted ≢ None) ⊎ (second.halted ≢ None)

  -- both are left as they were, and nothing is counted
  abbrev pub AreLeft : FarmNode D O H h → FarmNode D O H h → FarmNode D O H h → FarmNode D O H h → ℕ → Type 0
  AreLeft first second first_now second_now count = (count ≡ 0) × (first_now ≡ first) × (second_now ≡ second)

  -- nodes none of which is stopped have met in all rooms
  abbrev pub MeetInAll : FarmNode D O H h → FarmNode D O H h → FarmNode D O H h → FarmNode D O H h → ℕ → Type 0
  MeetInAll first second first_now second_now count =
      first.halted ≡ None → second.halted ≡ None
      → lists.HaveMetAll first.seats.items second.seats.items first_now.seats.items second_now.seats.items count held_of

  -- of each function the rooms have two numbers
  abbrev pub AreStrangers : FarmNode D O H h → FarmNode D O H h → Type 0
  AreStrangers first second = lists.AreAllStrange held_of first.seats.items second.seats.items

  -- nothing of a node changes but its seats
  abbrev pub StaysButSeats : FarmNode D O H h → FarmNode D O H h → Type 0
  StaysButSeats old new =
      (new.log ≡ old.log) × (new.program ≡ old.program) × (new.oracles ≡ old.oracles) × (new.draws ≡ old.draws)
      × (new.halted ≡ old.halted)

  -- its journal stands for what its seats keep, if it did
  abbrev pub StaysSound : disks.Ghosts D → FarmNode D O H h → FarmNode D O H h → Type 0
  StaysSound disk old new =
      IsSoundNode disk old.log (fours_of old.seats.items) old.halted
      → IsSoundNode disk new.log (fours_of new.seats.items) new.halted

  -- what it has not done may still be done, if it might
  abbrev pub StaysWaiting : FarmNode D O H h → FarmNode D O H h → Type 0
  StaysWaiting old new = IsWaiting old.seats.items old.halted → IsWaiting new.seats.items new.halted
