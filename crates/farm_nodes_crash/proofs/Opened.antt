-- Right after a farm has opened a crash leaves what it has opened from, which is settled.
use Rattle.std.proofs.Common.{◌≡◌, ℕ, ◌<◌, ◌+◌, ◌*◌, List, [], ◌++◌, length, Option, Some, None, append-nil, refl, sym, ap, subst, ◌∙◌, inl, inr, arith}
use Rattle.std.specs.Prelude.{slice_get}
use Rattle.std.specs.Global.{Vec}
use Rattle.durable_model.specs.declared.disk.Disk as disks
use Rattle.durable_pair.specs.declared.pair.Pair as pairs
use Rattle.durable_pair.specs.Images.{IsSpent}
use Rattle.paxos_core_world.specs.KeptPart.{KeptPart}
use Rattle.paxos_core_world.specs.Quorum.{AreQuorums, Sizes}
use Rattle.paxos_core_world.specs.Settled.{Settled}
use Rattle.paxos_core_world.specs.World.{nodes_of, opening}
use Rattle.acceptor_log_form.specs.declared.record.Record.{Record}
use Rattle.acceptor_log_form.specs.Leaves.{kept_in}
use Rattle.acceptor_log.specs.Acknowledged.{acknowledged}
use Rattle.acceptor_log.specs.declared.log.Log.{Log}
use Rattle.farm_nodes_turn_node.specs.Held.{pending_in}
use Rattle.farm_nodes_turn_passes.specs.Numbers.{place_of, room_at}
use Rattle.farm_nodes_turn_passes.specs.declared.which.Which.{Which}
use Rattle.farm_nodes_turn_node.specs.declared.halted.Halted.{Halted}
use Rattle.farm_nodes_open_journals.specs.Journals.{AreOpened}
use Rattle.farm_nodes_open_numbers.specs.Kept.{kept_of}
use Rattle.farm_nodes_open_numbers.specs.Left.{AreLeft, AreLeftIn}
use Rattle.farm_nodes_open_stored.specs.Nodes.{AreMade}
use Rattle.farm_nodes_open_stored.specs.Read.{IsKeptPart}
use Rattle.farm_nodes_open_nodes.proofs.Lists.{found_at}
use Rattle.farm_nodes_crash_left.specs.Left.{AreLeftOf, NodeSeats}
use Rattle.farm_nodes_crash.specs.Stand.{AreGoing, AreSettledFrom, OpenedRoomsStand, RoomsStand}
use Rattle.farm_nodes_crash.proofs.Nodes.{own_records, own_stands, upto}
use Rattle.farm_nodes_crash.proofs.Reopening.{kept_at, place_below}

none_pending : (seats : NodeSeats) (halted : Option Halted) → halted ≡ None → pending_in seats halted ≡ []
none_pending seats halted e = ap (λ (h : Option Halted). pending_in seats h) e

settled_left : (q : Sizes) (before parts : List KeptPart) → AreQuorums q → Settled q (nodes_of before) → ((i : ℕ) → i < q.nodes → nodes_of before i ≡ nodes_of parts i)
    → AreLeft q parts
settled_left q before parts sizes settled same = record {
  world = opening q.nodes (nodes_of before);
  reached = record { nodes = nodes_of before; steps = []; run = record { sizes = sizes; settled = settled; run = tt }; world = refl };
  same = same;
}

module _ {D : Type 0} (disk : disks.Ghosts D) (pair : pairs.Ghosts D) (q : Sizes) (digest : List ℕ) (functions : ℕ)
    (honest_spent : (p : D) (d : List ℕ) → disk.is_honest p → pair.old_may p d → IsSpent d)
    (new_is_left : (p : D) (c : List ℕ) → disk.is_honest p → pair.new_may p c → disk.may_leave p c)
    (logs : ℕ → Log D) (seats : ℕ → NodeSeats) (halted : ℕ → Option Halted) (given : List D)
    (all : AreLeftOf disk pair q digest functions logs seats halted given) (sizes : AreQuorums q)
    (opened : List (Log D)) (from : AreSettledFrom disk pair q functions opened) (going : AreGoing disk pair q opened logs halted) where
  module _ (journals : List (Log D × Vec Record)) (are : AreOpened disk pair q digest given (length given) journals)
      (kept : List (Vec KeptPart)) (are_kept : AreMade (IsKeptPart functions (length journals)) journals (length journals) kept) where
    -- what was acknowledged stands there, and nothing else
    records_are : (i : ℕ) (lt : i < q.nodes) (j : Log D × Vec Record) (p : D) → slice_get journals i ≡ Some j → slice_get given i ≡ Some p
        → j.1.items ≡ acknowledged disk.seen (logs i)
    records_are i lt j p at there =
        let node = all.nodes i lt in
        let left = all.left i p there in
        let mine : List Record = upto disk pair q digest functions honest_spent new_is_left i (logs i) (seats i) (halted i) node p left in
        let stands = own_stands disk pair q digest functions honest_spent new_is_left i (logs i) (seats i) (halted i) node p left j.0 j.1.items
        (are.each i j p at there) in
        let same : mine ≡ acknowledged disk.seen (logs i) = (node.sound.upto node.honest).2 (going.going i lt) in
        elim (own_records disk pair q digest functions honest_spent new_is_left i (logs i) (seats i) (halted i) node p left j.1.items stands) [
          | inl e ↦ e ∙ same
          | inr e ↦ e ∙ (ap (λ (l : List Record). mine ++ l) (none_pending (seats i) (halted i) (going.going i lt)) ∙ (append-nil mine ∙ same))
        ]

    same_kept : (f : ℕ) (pass : Which) → f < functions → (i : ℕ) → i < q.nodes
        → nodes_of (kept_of from.kept (room_at f pass)) i ≡ nodes_of (kept_of kept (room_at f pass)) i
    same_kept f pass low i lt =
        let j = found_at journals i (omega (arith, lt, all.count, are.size)) in
        let p = found_at given i (omega (arith, lt, all.count)) in
        let k = found_at kept i (omega (arith, lt, all.count, are.size, are_kept.count)) in
        let o = found_at opened i (omega (arith, lt, going.count)) in
        let b = found_at from.kept i (omega (arith, lt, going.count, from.are_kept.count)) in
        let same : o.0 ≡ logs i = going.same i o.0 o.1 in
        let honest : disk.is_honest o.0.disk = subst (λ (l : Log D). disk.is_honest l.disk) (sym same) (all.nodes i lt).honest in
        let below : 4 * f + place_of pass < 4 * functions = omega (arith, low, place_below pass) in
        let first : nodes_of (kept_of from.kept (room_at f pass)) i ≡ kept_in (acknowledged disk.seen o.0) (room_at f pass) =
        kept_at functions (length opened) i (acknowledged disk.seen o.0) from.kept b.0 (room_at f pass) b.1 (from.are_kept.each i o.0 b.0 o.1 b.1 honest) below in
        let second : nodes_of (kept_of kept (room_at f pass)) i ≡ kept_in j.0.1.items (room_at f pass) =
        kept_at functions (length journals) i j.0.1.items kept k.0 (room_at f pass) k.1 (are_kept.each i j.0 k.0 j.1 k.1) below in
        let records : acknowledged disk.seen o.0 ≡ j.0.1.items =
        ap (λ (l : Log D). acknowledged disk.seen l) same ∙ sym (records_are i lt j.0 p.0 j.1 p.1) in
        first ∙ (ap (λ (l : List Record). kept_in l (room_at f pass)) records ∙ sym second)

    opened_left : AreLeftIn q kept functions
    opened_left f pass low =
        settled_left q (kept_of from.kept (room_at f pass)) (kept_of kept (room_at f pass)) sizes (from.settled f low pass) (same_kept f pass low)

  pub never_unsettled : RoomsStand disk pair q digest functions given
  never_unsettled room (journals, are, un) = un.left (opened_left journals are un.kept un.are_kept) refl

pub opened_rooms_stand : {D : Type 0} (disk : disks.Ghosts D) (pair : pairs.Ghosts D) (q : Sizes)
    → ((p : D) (d : List ℕ) → disk.is_honest p → pair.old_may p d → IsSpent d)
    → ((p : D) (c : List ℕ) → disk.is_honest p → pair.new_may p c → disk.may_leave p c) → AreQuorums q → OpenedRoomsStand disk pair q
opened_rooms_stand disk pair q honest_spent new_is_left sizes digest functions logs seats halted given all opened from going =
    never_unsettled disk pair q digest functions honest_spent new_is_left logs seats halted given all sizes opened from going
