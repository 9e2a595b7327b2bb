use Rattle.std.proofs.Common.{◌≤◌, ◌+◌, List, length}
use Rattle.acceptor_log_form.specs.declared.record.Record.{Record}
use Rattle.acceptor_log_old.specs.Migrated.{migrated_below}
use Rattle.acceptor_log_translating.specs.Translating.{IsAdded}
use Rattle.acceptor_log_translating.specs.Found.{EachIsFound}
use Rattle.acceptor_log_translating.proofs.translating.write_rooms.Given as goal

-- what was put down of the rooms so far
abbrev pub invariant-loop-room : goal.invariant-loop-room
invariant-loop-room l = record {
  added : (rs : List Record) → EachIsFound l.bytes rs l.rooms → IsAdded l.fn.out.items l.out.items (migrated_below rs l.room) l.count;
  most : l.count ≤ l.room + l.room;
  grown : length l.fn.out.items + l.count ≤ length l.out.items;
}
