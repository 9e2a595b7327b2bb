-- A room whose seats are being dealt out.
use Rattle.std.specs.Prelude.{◌≡◌, ℕ, List, length}
use Rattle.atomic_table.specs.Seated.{TableId}
use Rattle.paxos_core_world.specs.KeptPart.{KeptPart}
use Rattle.paxos_core_world.specs.Quorum.{Sizes}
use Rattle.rooms_words.specs.Deal.{dealing}
use Rattle.rooms_words.specs.declared.view.Opening.{Opening}
use Rattle.rooms_words.specs.declared.view.View.{View}
use Rattle.rooms_meeting.specs.RoomAt.{HasWords, RoomAt}
use Rattle.rooms_meeting.specs.SeatState.{opening_of, CanOpen}

-- which room it is, how it was opened, and whose seat comes next
pub record Dealing : Type 0 where
  pub table : RoomAt
  pub opening : Opening
  pub next : ℕ

-- what is left is the right to step for the nodes that have no seat yet
pub record IsDealing (v : View) (s : Dealing) : Type 0 where
  pub words : HasWords s.table s.opening.quorums.nodes
  pub view : v ≡ dealing s.opening s.next
  pub can : CanOpen s.opening

-- a room of this table, which has this number, that has just been opened with these quorums from these kept parts
abbrev pub room_opened : TableId → ℕ → ℕ → ℕ → Sizes → List KeptPart → Dealing
room_opened table number rooms room q kept =
    record { table = record { table = table; rooms = rooms; room = room; number = number }; opening = opening_of q kept; next = 0 }

-- four rooms have so many nodes
pub record AreAsMany (n : ℕ) (a b c d : List KeptPart) : Type 0 where
  pub first : length a ≡ n
  pub second : length b ≡ n
  pub third : length c ≡ n
  pub fourth : length d ≡ n
