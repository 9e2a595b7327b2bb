-- A schedule that is under way: what was read, done and drawn so far.
use Rattle.std.proofs.Common.{◌≡◌, ◌≢◌, ℕ, zero, suc, ◌+◌, ◌^◌, ◌<◌, List, [], ◌∷◌, ◌++◌, length, Option, Some, None, refl, sym, ap, ◌∙◌, subst, arith, inl, inr, reverse, append_assoc, append-nil}
use Rattle.std.specs.Prelude.{slice_get}
use Rattle.std.specs.String.{string_bytes}
use Rattle.paxos_core_world.specs.Quorum.{Sizes}
use Rattle.paxos_core_world.specs.Settled.{Settled}
use Rattle.paxos_core_world.specs.World.{no_nodes}
use Rattle.paxos_core_world.specs.declared.msg.Msg.{Msg}
use Rattle.paxos_core.specs.Schedule.{Room, NodeCall, played, room_after, IsSchedule, SchedulesAreRuns}
use Rattle.cfarm_sim.specs.Plays.{asked, AreDone, HasObeyed, IsAsked, IsLine, IsNoCommand, Obeyed, StopsAt}
use Rattle.cfarm_sim.specs.Rooms.{Listed, room_of, start, told_by}
use Rattle.cfarm_sim.specs.declared.told.Told.{Told}
use Rattle.cfarm_sim.proofs.Going.{asked_was_sent, delivered, next_left, no_command, node_in}
use Rattle.cfarm_sim_lines.specs.Commands.{line_of, IsHead, IsInWords}
use Rattle.cfarm_sim_lines.specs.Texts.{text_of, IsLeft, IsScheduleText, first_line}
use Rattle.cfarm_sim_lines.specs.declared.command.Command.{Command}
use Rattle.cfarm_sim_lines.specs.declared.command.Command.TheVariants.{Offer, Start, Propose, Restart, Deliver}
use Rattle.cfarm_sim_svg_shapes.specs.Handed.{handed, has_come, node_of}
use Rattle.cfarm_sim_svg.specs.Playing.{DrewLine, HasDrawn, IsBegin, IsPlayedOut}
use Rattle.cfarm_sim_svg_shapes.specs.Rows.{origins, row_text, rows, sent_by}
use Rattle.cfarm_sim_svg_shapes.specs.declared.origin.Origin.{Origin}
use Rattle.cfarm_sim_svg.specs.declared.playing.Playing.{Playing}

pub record IsDrawing (text : List ℕ) (q : Sizes) (row : ℕ) (rest : List ℕ) (room : Room) (sent : List Origin) (body : List ℕ) : Type 0 where
  pub head : List ℕ
  pub commands : List Command
  pub calls : List NodeCall
  pub left : IsLeft text head commands rest
  pub lines : row ≡ length commands
  pub count : row ≡ length calls
  pub says : IsHead head q
  pub done : AreDone q commands calls
  pub schedule : IsSchedule q.nodes (start q) calls
  pub stands : room ≡ played (start q) calls
  pub from : sent ≡ origins q calls
  pub drawn : body ≡ rows q commands calls

pub first_drawing : (text : List ℕ) (q : Sizes) (line rest : List ℕ) (room : Room) (sent : List Origin) (body : List ℕ) (row : ℕ) → IsHead line q
    → IsLine text line rest → room ≡ start q → sent ≡ [] → body ≡ [] → row ≡ 0 → IsDrawing text q row rest room sent body
first_drawing text q line rest room sent body row says split stands none empty zero_is = record {
  head = line;
  commands = [];
  calls = [];
  left = left split;
  lines = zero_is;
  count = zero_is;
  says = says;
  done = tt;
  schedule = tt;
  stands = stands;
  from = none;
  drawn = empty;
}
  where
    left : IsLine text line rest → IsLeft text line [] rest
    left (inl e) = inl (e ∙ sym (append_assoc line (10 ∷ []) rest))
    left (inr p) = inr (p.1, ap (λ l. l ++ 10 ∷ []) p.0)

more_by : (row next n : ℕ) → next ≡ row + 1 → row ≡ n → next ≡ suc n
more_by row next n e same = omega arith

pub goes_on : (text : List ℕ) (q : Sizes) (row next : ℕ) (rest line behind : List ℕ) (room later : Room) (sent sent_later : List Origin) (body body_later : List ℕ)
    (c : Command) (told : Told) → IsDrawing text q row rest room sent body → rest ≢ [] → IsLine rest line behind → line ≡ line_of c → HasObeyed q room c told later
    → next ≡ row + 1
    → body_later ≡ body ++ row_text q.nodes row sent c told (has_come (later.nodes (node_of c)) (handed room.sent c))
    → sent_later ≡ sent ++ sent_by row told
    → IsDrawing text q next behind later sent_later body_later
goes_on text q row next rest line behind room later sent sent_later body body_later c told so more split is did next_is body_is sent_is =
    let k = did.0 in
    let ks = so.calls in
    let is_asked : IsAsked q (played (start q) ks) c k = subst (λ (r : Room). IsAsked q r c k) so.stands did.1 in
    let told_is : told ≡ told_by (played (start q) ks) k = did.3 ∙ ap (λ (r : Room). told_by r k) so.stands in
    let later_is : later ≡ room_after (played (start q) ks) k = did.2 ∙ ap (λ (r : Room). room_after r k) so.stands in
    record {
      head = so.head;
      commands = c ∷ so.commands;
      calls = k ∷ ks;
      left = next_left text so.head so.commands c rest line behind more is so.left split;
      lines = more_by row next (length so.commands) next_is so.lines;
      count = more_by row next (length ks) next_is so.count;
      says = so.says;
      done = (so.done, is_asked);
      schedule = (so.schedule, is_asked.0, asked_was_sent (played (start q) ks).sent c k is_asked.1);
      stands = later_is;
      from = sent_is ∙ (λ i. so.from i ++ sent_by (so.count i) (told_is i));
      drawn = body_is ∙ (λ i. so.drawn i
          ++ row_text q.nodes (so.count i) (so.from i) c (told_is i) (has_come ((later_is i).nodes (node_of c)) (handed (so.stands i).sent c)));
    }

pub moves : (text : List ℕ) (p new : Playing) (next : ℕ) (rest line behind : List ℕ)
    → IsDrawing text p.room.quorums p.row rest (room_of p.room) p.sent.items (string_bytes p.body) → rest ≢ [] → IsLine rest line behind → DrewLine p new line
    → next ≡ p.row + 1 → IsDrawing text new.room.quorums next behind (room_of new.room) new.sent.items (string_bytes new.body)
moves text p new next rest line behind so more split d next_is =
    subst (λ (q : Sizes). IsDrawing text q next behind (room_of new.room) new.sent.items (string_bytes new.body)) (sym d.quorums)
    (goes_on text p.room.quorums p.row next rest line behind (room_of p.room) (room_of new.room) p.sent.items new.sent.items (string_bytes p.body) (string_bytes new.body)
    d.command d.told so more split d.spelled d.done next_is d.body d.sent)

pub begins : (text : List ℕ) (q : Sizes) (line rest : List ℕ) (p : Playing) → IsHead line q → IsLine text line rest → IsBegin q p
    → IsDrawing text p.room.quorums p.row rest (room_of p.room) p.sent.items (string_bytes p.body)
begins text q line rest p says split b =
    let same = sym b.quorums in
    first_drawing text p.room.quorums line rest (room_of p.room) p.sent.items (string_bytes p.body) p.row
    (subst (λ (s : Sizes). IsHead line s) same says) split (b.start ∙ ap start same) b.sent b.body b.row

-- the node of a command is that of its call
pub asked_node : (sent : List Msg) (c : Command) (k : NodeCall) → asked sent c ≡ Some k → node_of c ≡ k.node
asked_node sent (Offer i) k e = ap (node_in i) e
asked_node sent (Start i) k e = ap (node_in i) e
asked_node sent (Propose i) k e = ap (node_in i) e
asked_node sent (Restart i) k e = ap (node_in i) e
asked_node sent (Deliver i zero) k e = absurd (cc)
asked_node sent (Deliver i (suc n)) k e = (delivered i (slice_get (reverse sent) n) k e).0

pub obeyed_within : (q : Sizes) (room : Room) (c : Command) (told : Told) (later : Room) → HasObeyed q room c told later → node_of c < q.nodes
obeyed_within q room c told later did =
    let k = did.0 in
    let same = asked_node room.sent c k did.1.1 in
    let below = did.1.0 in
    omega arith

pub within_new : (old new : Listed) (c : Command) (told : Told) → Obeyed old c new told → new.quorums ≡ old.quorums → node_of c < new.quorums.nodes
within_new old new c told did same =
    let below = obeyed_within old.quorums (room_of old) c told (room_of new) did in
    let nodes = ap (λ (q : Sizes). q.nodes) same in
    omega arith

-- a command was done, and then drawn
pub drew_by : (old new : Playing) (room : Listed) (line : List ℕ) (command : Command) (told : Told) (message : Option Msg) → line ≡ line_of command
    → message ≡ handed (room_of old.room).sent command → Obeyed old.room command room told → room.quorums ≡ old.room.quorums
    → HasDrawn (record old { room = room }) new command told message → DrewLine old new line
drew_by old new room line command told message spelled is did same d = record {
  command = command;
  told = told;
  spelled = spelled;
  done = subst (λ (r : Listed). Obeyed old.room command r told) (sym d.room) did;
  quorums = ap (λ (r : Listed). r.quorums) d.room ∙ same;
  row = d.row;
  body = d.body ∙ (λ i. string_bytes old.body
      ++ row_text (same i).nodes old.row old.sent.items command told (has_come ((room_of (sym d.room i)).nodes (node_of command)) (is i)));
  sent = d.sent;
}

pub none_more : (old : List Origin) → old ≡ old ++ []
none_more old = sym (append-nil old)

-- the line spells no command that can be done
pub no_line : (q : Sizes) (room : Room) (line : List ℕ) (found : Option Command) → q.nodes < 256 → length room.sent < 2 ^ 64
    → ((c : Command) → IsInWords c → line ≡ line_of c → found ≡ Some c)
    → ((c : Command) (k : NodeCall) → found ≡ Some c → IsAsked q room c k → ⊥)
    → IsNoCommand q room line
no_line q room line found few short only none = no_command q room line found few short only none

-- ---- the end

pub stops : (text : List ℕ) (q : Sizes) (row : ℕ) (rest line : List ℕ) (room : Room) (sent : List Origin) (body : List ℕ) → IsDrawing text q row rest room sent body
    → rest ≢ [] → line ≡ first_line rest → IsNoCommand q room line → StopsAt text (row + 2) None None
stops text q row rest line room sent body so more is none = elim so.left as (λ _. StopsAt text (row + 2) None None) [
  | inr empty ↦ absurd (more empty.0)
  | inl left ↦ inr (record {
    quorums = q;
    head = so.head;
    commands = so.commands;
    calls = so.calls;
    rest = rest;
    says = so.says;
    lines = left;
    more = more;
    number = ap (λ n. n + 2) so.lines;
    done = so.done;
    none = subst (λ l. IsNoCommand q (played (start q) so.calls) l) is (subst (λ (r : Room). IsNoCommand q r line) so.stands none);
    output = tt;
  })
]

pub ends : (text : List ℕ) (p : Playing) (rest : List ℕ) → IsDrawing text p.room.quorums p.row rest (room_of p.room) p.sent.items (string_bytes p.body)
    → rest ≡ [] → SchedulesAreRuns → Settled p.room.quorums no_nodes → IsPlayedOut text p
ends text p rest so none runs settled =
    let q = p.room.quorums in
    record {
      shown = record {
        quorums = q;
        head = so.head;
        commands = so.commands;
        calls = so.calls;
        says = so.says;
        lines = elim so.left as (λ _. IsScheduleText text so.head so.commands) [
          | inl left ↦ inl (left ∙ ap (λ l. text_of so.head so.commands ++ l) none ∙ append-nil (text_of so.head so.commands))
          | inr whole ↦ inr whole.1
        ];
        done = so.done;
        run = runs q no_nodes so.calls so.says.0 settled so.schedule;
        output = tt;
      };
      quorums = refl;
      room = so.stands;
      row = so.count;
      body = so.drawn;
    }
