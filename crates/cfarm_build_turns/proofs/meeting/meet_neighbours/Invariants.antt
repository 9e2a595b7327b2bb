use Rattle.std.proofs.Common.{◌≡◌, ℕ, suc, IsTrue}
use Rattle.std.specs.List.{AllZip}
use Rattle.cfarm_build_meeting.specs.Counted.{AreCountedAt, AreMissed}
use Rattle.cfarm_build_meeting.proofs.Counting.{AreBack}
use Rattle.cfarm_build_meeting.proofs.Twice.{AreBackIf, AreForth}
use Rattle.cfarm_build_turns.specs.Nodes.{NodeStays}
use Rattle.cfarm_build_turns.proofs.meeting.meet_neighbours.Given as goal

-- the first ones have met, and whether of the last two of those all functions were counted
abbrev pub invariant-loop-next : goal.invariant-loop-next
invariant-loop-next g l = record {
  forth : AreForth (λ n. n.seats.items) (NodeStays g.D.Disk) l.fn.nodes l.nodes l.next;
  counted : IsTrue l.counted → (k : ℕ) → l.next ≡ suc (suc k) → AreCountedAt (λ n. n.seats.items) l.nodes k;
  missed : (IsTrue l.counted → ⊥) → AreMissed (λ n. n.seats.items) l.nodes;
}

-- and of the last ones each two met again, and are counted
abbrev pub invariant-loop-done : goal.invariant-loop-done
invariant-loop-done g l = record {
  stay : AllZip (NodeStays g.D.Disk) l.fn.nodes l.nodes;
  twice : AreBackIf (λ n. n.seats.items) (NodeStays g.D.Disk) l.fn.nodes l.nodes l.done;
  back : AreBack (λ n. n.seats.items) l.done l.nodes;
}
