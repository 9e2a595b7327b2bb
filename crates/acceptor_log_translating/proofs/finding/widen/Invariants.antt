use Rattle.std.proofs.Common.{◌≡◌, ◌≤◌, ◌+◌, ◌-◌, ◌⊎◌, ℕ, Some, length}
use Rattle.std.specs.Prelude.{slice_get}
use Rattle.acceptor_log_translating.specs.declared.stepping.Room.{Room}
use Rattle.acceptor_log_translating.specs.Found.{nothing_found}
use Rattle.acceptor_log_translating.proofs.finding.widen.Given as goal

-- rooms of which nothing was found stand behind those that were there
abbrev pub invariant-loop-rooms : goal.invariant-loop-rooms
invariant-loop-rooms l = record {
  no_less : length l.fn.rooms.items ≤ length l.rooms.items;
  no_more : (length l.rooms.items ≤ length l.fn.rooms.items) ⊎ (length l.rooms.items ≤ l.number + 1);
  each : (m : ℕ) (x : Room) → slice_get l.rooms.items m ≡ Some x → (slice_get l.fn.rooms.items m ≡ Some x) ⊎ ((length l.fn.rooms.items ≤ m) × (x ≡ nothing_found));
}

abbrev pub decreases-loop-rooms : goal.decreases-loop-rooms
decreases-loop-rooms l = l.number + 1 - length l.rooms.items
