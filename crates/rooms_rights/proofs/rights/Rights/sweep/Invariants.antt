use Rattle.std.proofs.Common.{◌≡◌, ◌+◌, ◌*◌}
use Rattle.rooms_table.specs.Places.{pair_of}
use Rattle.rooms_rights.proofs.Sweeping.{SoFar}
use Rattle.rooms_rights.proofs.rights.Rights.sweep.Given as goal

abbrev pub invariant-loop-j : goal.invariant-loop-j
invariant-loop-j l =
    record {
      so_far : SoFar l.board.table_id l.fn.self l.count l.fn.seen l.j l.self-inside.1.1.0.table_id l.self-inside.1.1.0.me l.seen;
      next : l.place + 2 * l.fn.self.at.rooms ≡ 2 * pair_of l.fn.self.at.rooms l.fn.self.at.room l.j;
    }
