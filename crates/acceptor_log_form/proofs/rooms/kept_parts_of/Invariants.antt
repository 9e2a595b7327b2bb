use Rattle.std.proofs.Common.{◌≡◌, ℕ, ◌<◌, take, length, Some}
use Rattle.std.specs.Prelude.{slice_get}
use Rattle.acceptor_log_form.specs.declared.record.Record.{Record}
use Rattle.acceptor_log_form.specs.Leaves.{kept_in, proposed_in}
use Rattle.acceptor_log_form.specs.Order.{MayFollow}
use Rattle.acceptor_log_form.proofs.rooms.kept_parts_of.Given as goal

-- what the records so far leave of each room, and that each of them may follow those in front of it
abbrev pub invariant-loop-entry : goal.invariant-loop-entry
invariant-loop-entry l = record {
  rooms : length l.kept.items ≡ l.rooms;
  ballots : length l.proposed.items ≡ l.rooms;
  kept : (m : ℕ) → m < l.rooms → slice_get l.kept.items m ≡ Some (kept_in (take l.entry-index l.records) m);
  proposed : (m : ℕ) → m < l.rooms → slice_get l.proposed.items m ≡ Some (proposed_in (take l.entry-index l.records) m);
  in_order : (k : ℕ) (r : Record) → k < l.entry-index → slice_get l.records k ≡ Some r → MayFollow l.header.nodes l.header.node l.rooms (take k l.records) r;
}
