use Rattle.std.proofs.Common.{◌≡◌, length}
use Rattle.std.specs.Prelude.{All}
use Rattle.paxos_core_world.specs.KeptPart.{nothing_kept}
use Rattle.acceptor_log_form.proofs.rooms.nothing_in.Given as goal

abbrev pub invariant-loop-room : goal.invariant-loop-room
invariant-loop-room l = record { rooms : length l.parts.items ≡ l._room; nothing : All (λ k. k ≡ nothing_kept) l.parts.items }
