-- What three nodes have learned together.
use Rattle.std.specs.Prelude.{◌≡◌, ℕ, List}
use Rattle.paxos_core_world.specs.World.{Has}
use Rattle.rooms_words.specs.declared.event.Event.{Event}
use Rattle.rooms_words.specs.Views.{world_after, IsLegal}
use Rattle.rooms_seat.specs.declared.meeting.Meeting.{Meeting}
use Rattle.rooms_seat.specs.declared.meeting.Meeting.TheVariants.{Same}
use Rattle.cfarm_settle_nodes.specs.Goes.{empty_room}

-- the run is one of the protocol of three nodes that begin with nothing, and at its end each of them has learned the value
pub record IsLearnedByAll (run : List Event) (value : ℕ) : Type 0 where
  pub legal : IsLegal empty_room run
  pub first : Has (0, value) (world_after empty_room run).learned
  pub second : Has (1, value) (world_after empty_room run).learned
  pub third : Has (2, value) (world_after empty_room run).learned

-- three meetings that told one value
pub record AreSame (first second third : Meeting) (value : ℕ) : Type 0 where
  pub one : first ≡ Same value
  pub two : second ≡ Same value
  pub three : third ≡ Same value
