-- What a schedule does, command by command, and what is printed of it.
use Rattle.std.specs.Prelude.{◌≡◌, ◌≢◌, ℕ, zero, suc, ◌<◌, ◌+◌, ◌⊎◌, List, [], ◌∷◌, ◌++◌, Option, Some, None, length, reverse, slice_get, codes}
use Rattle.std.specs.Io.KnownBytes.{Appends}
use Rattle.std.specs.Option.{option_map}
use Rattle.std.specs.Fmt.{decimal}
use Rattle.cfarm_output.specs.Begun.{IsBegun}
use Rattle.paxos_core_world.specs.declared.msg.Msg.{Msg}
use Rattle.paxos_core_world.specs.Quorum.{Sizes}
use Rattle.paxos_core_world.specs.World.{no_nodes}
use Rattle.paxos_core_node_steps.specs.NodeState.{NodeState}
use Rattle.paxos_core.specs.Call.{Offer, Start, Proposal, On, Restart}
use Rattle.paxos_core.specs.Schedule.{Room, NodeCall, played, room_after, IsPlayed}
use Rattle.cfarm_sim_lines.specs.Commands.{line_of, IsHead}
use Rattle.cfarm_sim.specs.Rooms.{Listed, room_of, start, told_by}
use Rattle.cfarm_sim_lines.specs.Texts.{IsScheduleText, IsLeft, text_of, first_line}
use Rattle.cfarm_sim.specs.Told.{told_text}
use Rattle.cfarm_sim_lines.specs.declared.command.Command.{Command}
use Rattle.cfarm_sim_lines.specs.declared.command.Command.TheVariants as command
use Rattle.cfarm_sim.specs.declared.error.ScheduleError.{ScheduleError}
use Rattle.cfarm_sim.specs.declared.error.ScheduleError.TheVariants.{NoMemory, Schedule, Write}
use Rattle.cfarm_sim.specs.declared.told.Told.{Told}

-- the message with this number, of those sent, of which the newest stands first
abbrev pub numbered : List Msg → ℕ → Option Msg
numbered sent zero = None
numbered sent (suc k) = slice_get (reverse sent) k

-- the call that a command asks for, where its message was sent
abbrev pub asked : List Msg → Command → Option NodeCall
asked sent (command.Offer i) = Some (record { node = i; call = Offer })
asked sent (command.Start i) = Some (record { node = i; call = Start })
asked sent (command.Propose i) = Some (record { node = i; call = Proposal })
asked sent (command.Restart i) = Some (record { node = i; call = Restart })
asked sent (command.Deliver i k) = option_map (λ m. record { node = i; call = On m }) (numbered sent k)

-- the command can be done there by this call
abbrev pub IsAsked : Sizes → Room → Command → NodeCall → Type 0
IsAsked q room c k = (k.node < q.nodes) × (asked room.sent c ≡ Some k)

-- the commands can be done in turn, by these calls
abbrev pub AreDone : Sizes → List Command → List NodeCall → Type 0
AreDone q [] [] = Unit {0}
AreDone q [] (k ∷ ks) = ⊥
AreDone q (c ∷ cs) [] = ⊥
AreDone q (c ∷ cs) (k ∷ ks) = AreDone q cs ks × IsAsked q (played (start q) ks) c k

-- the lines that are printed of the calls
abbrev pub printed : Sizes → List NodeCall → List ℕ
printed q [] = []
printed q (k ∷ ks) = printed q ks ++ told_text (told_by (played (start q) ks) k)

abbrev pub value_word : Option ℕ → List ℕ
value_word None = codes " -"
value_word (Some v) = codes " " ++ decimal v

-- what the first nodes have learned
abbrev pub values : ℕ → (ℕ → NodeState) → List ℕ
values zero nodes = []
values (suc n) nodes = values n nodes ++ value_word (nodes n).learned

-- the last line
abbrev pub closing : Sizes → Room → List ℕ
closing q room = codes "learned:" ++ (values q.nodes room.nodes ++ codes "\n")

-- the last line of a room as the program holds it
abbrev pub last_line : Listed → List ℕ
last_line room = closing room.quorums (room_of room)

-- the whole schedule was played: what is shown is a run of the protocol from the empty opening
pub record IsShown (text : List ℕ) (before after : Option (List ℕ)) : Type 0 where
  pub quorums : Sizes
  pub head : List ℕ
  pub commands : List Command
  pub calls : List NodeCall
  pub says : IsHead head quorums
  pub lines : IsScheduleText text head commands
  pub done : AreDone quorums commands calls
  pub run : IsPlayed quorums no_nodes calls
  pub output : Appends before after (printed quorums calls ++ closing quorums (played (start quorums) calls))

-- the command was done there: what it told, and the room behind it
abbrev pub HasObeyed : Sizes → Room → Command → Told → Room → Type 0
HasObeyed q room c told later = (k : NodeCall) × IsAsked q room c k × (later ≡ room_after room k) × (told ≡ told_by room k)

-- the command that the line spells was done
abbrev pub HasObeyedLine : Sizes → Room → List ℕ → Told → Room → Type 0
HasObeyedLine q room line told later = (c : Command) × (line ≡ line_of c) × HasObeyed q room c told later

-- the same of rooms as the program holds them
abbrev pub Obeyed : Listed → Command → Listed → Told → Type 0
Obeyed old c new told = HasObeyed old.quorums (room_of old) c told (room_of new)

abbrev pub ObeyedLine : Listed → List ℕ → Listed → Told → Type 0
ObeyedLine old line new told = HasObeyedLine old.quorums (room_of old) line told (room_of new)

-- a line, and what stands behind it
abbrev pub IsLine : List ℕ → List ℕ → List ℕ → Type 0
IsLine rest line behind = (rest ≡ line ++ 10 ∷ behind) ⊎ ((rest ≡ line) × (behind ≡ []))

-- the command cannot be done there
abbrev pub IsRefused : Sizes → Room → Command → Type 0
IsRefused q room c = (k : NodeCall) → IsAsked q room c k → ⊥

abbrev pub Refuses : Listed → Command → Type 0
Refuses room c = IsRefused room.quorums (room_of room) c

-- no command that can be done there is spelled so
abbrev pub IsNoCommand : Sizes → Room → List ℕ → Type 0
IsNoCommand q room line = (c : Command) (k : NodeCall) → IsAsked q room c k → line ≢ line_of c

-- the first line says no sizes of quorums that meet
abbrev pub HasNoHead : List ℕ → Type 0
HasNoHead text = (q : Sizes) → ¬ IsHead (first_line text) q

-- the lines before this one were played and printed, and this one is none
pub record StopsBehind (text : List ℕ) (line : ℕ) (before after : Option (List ℕ)) : Type 0 where
  pub quorums : Sizes
  pub head : List ℕ
  pub commands : List Command
  pub calls : List NodeCall
  pub rest : List ℕ
  pub says : IsHead head quorums
  pub lines : text ≡ text_of head commands ++ rest
  pub more : rest ≢ []
  pub number : line ≡ length commands + 2
  pub done : AreDone quorums commands calls
  pub none : IsNoCommand quorums (played (start quorums) calls) (first_line rest)
  pub output : Appends before after (printed quorums calls)

abbrev pub StopsAt : List ℕ → ℕ → Option (List ℕ) → Option (List ℕ) → Type 0
StopsAt text line before after = ((line ≡ 1) × HasNoHead text × Appends before after []) ⊎ StopsBehind text line before after

-- what is shown of these calls, where this is left of the text behind their lines: at its end the last line too
abbrev pub shown_of : Sizes → List NodeCall → List ℕ → List ℕ
shown_of q calls [] = printed q calls ++ closing q (played (start q) calls)
shown_of q calls (b ∷ rest) = printed q calls

-- The first lines were played, and a beginning of what they show was printed.
pub record IsCutOff (text : List ℕ) (before after : Option (List ℕ)) : Type 0 where
  pub quorums : Sizes
  pub head : List ℕ
  pub commands : List Command
  pub calls : List NodeCall
  pub rest : List ℕ
  pub says : IsHead head quorums
  pub lines : IsLeft text head commands rest
  pub done : AreDone quorums commands calls
  pub output : IsBegun (shown_of quorums calls rest) before after

-- Why a schedule is not shown to its end, and what was printed of it then: what the lines before a bad one print; where
-- memory or the writer failed, a beginning of what the whole would show.
abbrev pub IsStopped : List ℕ → ScheduleError → Option (List ℕ) → Option (List ℕ) → Type 0
IsStopped text NoMemory before after = IsCutOff text before after
IsStopped text (Schedule line) before after = StopsAt text line before after
IsStopped text Write before after = IsCutOff text before after
