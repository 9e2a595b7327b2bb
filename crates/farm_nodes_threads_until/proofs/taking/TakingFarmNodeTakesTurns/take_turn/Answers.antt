-- Why `take_turn` meets its clauses `fit`, `stays` and `turned`.
use Rattle.std.proofs.Common.{◌≡◌, ◌<◌, length, refl, sym, ap, ◌∙◌, subst}
use Rattle.std.specs.Arc.{arc_value}
use Rattle.lang_base.specs.declared.program.Program.{Program}
use Rattle.rtl_language.specs.Function.{FunctionData}
use Rattle.farm_nodes_turn_node.specs.Numbers.{function_of}
use Rattle.farm_nodes_threads_until.specs.Places.{IsEarly, IsRoomOf, room_until}
use Rattle.farm_nodes_threads_until.proofs.EarlyRooms.{room_early}
use Rattle.farm_nodes_threads_until.proofs.taking.TakingFarmNodeTakesTurns.take_turn.Goals as goal

pub turn-requires-clause-room : goal.turn-requires-clause-room
turn-requires-clause-room g c =
    subst (λ room. function_of room < length c.args.self.now.node.seats.items) (sym c.room_at-room.ensures) c.requires.room.function

pub returns-clause-fit : goal.returns-clause-fit
returns-clause-fit g c = c.turn.ensures.asked

pub returns-clause-stays : goal.returns-clause-stays
returns-clause-stays g c =
    let old = c.args.self.now.node in let new = c.turn.new.self in
    let long : length new.seats.items ≡ length old.seats.items =
    new.covers ∙ (ap (λ p. length (arc_value {X = Program FunctionData} p).functions) c.turn.ensures.others.program ∙ sym old.covers) in
    subst (λ n. IsRoomOf n (room_until c.args.self.now.until c.args.room)) (sym long) c.requires.room

pub returns-clause-turned : goal.returns-clause-turned
returns-clause-turned g c = (
  refl,
  record {
    turn = record {
      room = c.room_at-room.result;
      told = c.turn.result;
      within = subst (λ room. function_of room < length c.args.self.now.node.seats.items) (sym c.room_at-room.ensures) c.requires.room.function;
      served = c.turn.ensures.served;
      stopped = c.turn.ensures.stopped;
      others = c.turn.ensures.others;
      leaves = c.turn.ensures.leaves;
      tells = c.turn.ensures.tells;
      journal = c.turn.ensures.into;
    };
    early = subst (λ room. IsEarly c.args.self.now.until room) (sym c.room_at-room.ensures) (room_early c.args.self.now.until c.args.room);
  },
)
