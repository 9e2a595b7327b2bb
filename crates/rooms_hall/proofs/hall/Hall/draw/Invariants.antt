use Rattle.std.proofs.Common.{◌≡◌}
use Rattle.rooms_hall.proofs.hall.Hall.draw.Given as goal

abbrev pub invariant-loop-tried : goal.invariant-loop-tried
invariant-loop-tried g l = l.token.table_id ≡ l.initial.token.table_id
