-- A schedule that is under way.
use Rattle.std.specs.Prelude.{◌≡◌, ℕ, List, [], ◌++◌, Option, None, length}
use Rattle.std.specs.String.{string_bytes}
use Rattle.paxos_core_world.specs.declared.msg.Msg.{Msg}
use Rattle.paxos_core_world.specs.Quorum.{Sizes}
use Rattle.paxos_core.specs.Schedule.{played}
use Rattle.cfarm_sim.specs.Plays.{HasObeyed, IsNoCommand, IsShown, StopsAt, last_line}
use Rattle.cfarm_sim.specs.Rooms.{room_of, start}
use Rattle.cfarm_sim.specs.declared.error.ScheduleError.{ScheduleError}
use Rattle.cfarm_sim.specs.declared.error.ScheduleError.TheVariants.{NoMemory, Schedule, Write}
use Rattle.cfarm_sim.specs.declared.told.Told.{Told}
use Rattle.cfarm_sim_lines.specs.Commands.{line_of}
use Rattle.cfarm_sim_lines.specs.declared.command.Command.{Command}
use Rattle.cfarm_sim_svg_shapes.specs.Frame.{drawing_of, foot_text}
use Rattle.cfarm_sim_svg_shapes.specs.Handed.{handed, has_come, node_of}
use Rattle.cfarm_sim_svg_shapes.specs.Rows.{row_text, rows, sent_by}
use Rattle.cfarm_sim_svg.specs.declared.playing.Playing.{Playing}

-- nothing was done
pub record IsBegin (q : Sizes) (p : Playing) : Type 0 where
  pub quorums : p.room.quorums ≡ q
  pub start : room_of p.room ≡ start q
  pub sent : p.sent.items ≡ []
  pub body : string_bytes p.body ≡ []
  pub row : p.row ≡ 0

-- the line spells no command that can be done
abbrev pub SpellsNone : Playing → List ℕ → Type 0
SpellsNone p line = IsNoCommand p.room.quorums (room_of p.room) line

-- the last line, and all that is drawn
abbrev pub foot_by : Playing → List ℕ
foot_by p = foot_text p.room.quorums.nodes p.row (last_line p.room)

abbrev pub drawing_by : Playing → List ℕ
drawing_by p = drawing_of p.room.quorums.nodes p.row (string_bytes p.body) (last_line p.room)

-- the row of a command that was done
abbrev pub row_by : Playing → Command → Told → Option Msg → List ℕ
row_by p command told message =
    row_text p.room.quorums.nodes p.row p.sent.items command told (has_come ((room_of p.room).nodes (node_of command)) message)

-- the row of a command that was done is drawn behind the others, and where it sent a message is noted
pub record HasDrawn (old new : Playing) (command : Command) (told : Told) (message : Option Msg) : Type 0 where
  pub room : new.room ≡ old.room
  pub row : new.row ≡ old.row
  pub body : string_bytes new.body ≡ string_bytes old.body ++ row_by old command told message
  pub sent : new.sent.items ≡ old.sent.items ++ sent_by old.row told

-- a line was done and drawn
pub record DrewLine (old new : Playing) (line : List ℕ) : Type 0 where
  pub command : Command
  pub told : Told
  pub spelled : line ≡ line_of command
  pub done : HasObeyed old.room.quorums (room_of old.room) command told (room_of new.room)
  pub quorums : new.room.quorums ≡ old.room.quorums
  pub row : new.row ≡ old.row
  pub body : string_bytes new.body ≡ string_bytes old.body
      ++ row_text old.room.quorums.nodes old.row old.sent.items command told (has_come ((room_of new.room).nodes (node_of command)) (handed (room_of old.room).sent command))
  pub sent : new.sent.items ≡ old.sent.items ++ sent_by old.row told

-- the whole schedule was played and drawn
pub record IsPlayedOut (text : List ℕ) (p : Playing) : Type 0 where
  pub shown : IsShown text None None
  pub quorums : p.room.quorums ≡ shown.quorums
  pub room : room_of p.room ≡ played (start shown.quorums) shown.calls
  pub row : p.row ≡ length shown.calls
  pub body : string_bytes p.body ≡ rows shown.quorums shown.commands shown.calls

-- why it was not
abbrev pub IsUnplayed : List ℕ → ScheduleError → Type 0
IsUnplayed text NoMemory = Unit {0}
IsUnplayed text (Schedule line) = StopsAt text line None None
IsUnplayed text Write = ⊥
