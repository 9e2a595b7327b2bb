-- The journals that a crash of all nodes left are opened, what stands in them is read, and its offers are accepted.
use Rattle.std.proofs.Common.{◌≡◌, ℕ, ◌<◌, ◌*◌, List, ◌++◌, length, Option, refl, sym, subst, ◌∙◌, inl, inr, arith}
use Rattle.std.proofs.lemmas.Option.{slice_get_within}
use Rattle.durable_model.specs.declared.disk.Disk as disks
use Rattle.durable_pair.specs.declared.pair.Pair as pairs
use Rattle.durable_pair.specs.Images.{IsSpent}
use Rattle.paxos_core_world.specs.Quorum.{Sizes}
use Rattle.acceptor_log_form.specs.declared.header.Header.{Header}
use Rattle.acceptor_log_form.specs.declared.record.Record.{Record}
use Rattle.acceptor_log_form.specs.Order.{AreInOrder}
use Rattle.acceptor_log_form.specs.Text.{StandsFor}
use Rattle.acceptor_log.specs.declared.log.Log.{Log}
use Rattle.farm_nodes_turn_node.specs.Held.{pending_in}
use Rattle.farm_nodes_turn_node.specs.declared.halted.Halted.{Halted}
use Rattle.farm_nodes_turn_passes.specs.Texts.{pass_texts}
use Rattle.farm_nodes_restart_disks.proofs.Own.{own_in_order}
use Rattle.farm_nodes_restart_records.proofs.Leaving.{front_in_order}
use Rattle.farm_nodes_open_journals.specs.Journals.{header_of, IsOpened}
use Rattle.farm_nodes_open_stored.specs.Read.{AreBad, HasNoOffer}
use Rattle.farm_nodes_open_nodes.proofs.Lists.{found_at}
use Rattle.farm_nodes_crash_left.specs.Left.{AreLeftOf, IsLeftOf, IsNode, NodeSeats}
use Rattle.farm_nodes_crash.specs.Stand.{JournalsStand, LeftJournalsStand, OffersStand, RecordsStand}
use Rattle.farm_nodes_crash_left.proofs.Accepted.{AllHaveOwnTexts, none_refused}
use Rattle.farm_nodes_crash.proofs.Nodes.{journal, own_opens, own_records, own_stands, upto}
use Rattle.farm_nodes_crash_left.proofs.Offers.{AreOf, no_offer_missing, records_are_of}

module _ {D : Type 0} (disk : disks.Ghosts D) (pair : pairs.Ghosts D) (q : Sizes) (digest : List ℕ) (functions : ℕ)
    (honest_spent : (p : D) (d : List ℕ) → disk.is_honest p → pair.old_may p d → IsSpent d)
    (new_is_left : (p : D) (c : List ℕ) → disk.is_honest p → pair.new_may p c → disk.may_leave p c) where
  module _ (i : ℕ) (log : Log D) (seats : NodeSeats) (halted : Option Halted) (node : IsNode disk pair q digest functions i log seats halted)
      (p : D) (left : IsLeftOf disk pair q digest functions log p) (now : Log D) (rs : List Record) (opened : IsOpened disk pair (header_of q digest i) p now rs) where
    in_order : AreInOrder q.nodes i (4 * functions) rs
    in_order =
        subst (λ (n : ℕ). AreInOrder q.nodes i (4 * n) rs) node.functions_are
        (subst (λ (h : Header). AreInOrder h.nodes h.node (4 * length seats) rs) node.header
        (own_in_order pass_texts disk log seats halted (disk.seen p) node.sound node.honest
        (new_is_left log.disk (disk.seen p) node.honest left.shows.left.0) rs
        (subst (λ (h : Header). StandsFor h rs (disk.seen p)) (sym node.header)
        (own_stands disk pair q digest functions honest_spent new_is_left i log seats halted node p left now rs opened))))

    abbrev mine : List Record
    mine = upto disk pair q digest functions honest_spent new_is_left i log seats halted node p left

    pub are_of : AreOf rs
    are_of =
        let j = journal disk pair q digest functions honest_spent new_is_left i log seats halted node p left in
        records_are_of log.header.nodes log.header.node (4 * length seats) seats halted mine rs refl
        (front_in_order log.header.nodes log.header.node (4 * length seats) mine (pending_in seats halted) (mine ++ pending_in seats halted) refl j.in_order)
        j.leave node.waiting
        (own_records disk pair q digest functions honest_spent new_is_left i log seats halted node p left rs
        (own_stands disk pair q digest functions honest_spent new_is_left i log seats halted node p left now rs opened))

    pub never_bad : (count : ℕ) → count ≡ q.nodes → AreBad functions count i rs → ⊥
    never_bad count same (inl order) = order (subst (λ (n : ℕ). AreInOrder n i (4 * functions) rs) (sym same) in_order)
    never_bad count same (inr missing) = no_offer_missing rs are_of missing

  module _ (logs : ℕ → Log D) (seats : ℕ → NodeSeats) (halted : ℕ → Option Halted) (given : List D)
      (all : AreLeftOf disk pair q digest functions logs seats halted given) where
    pub journals_stand : JournalsStand disk pair q digest functions given
    journals_stand node fault told memory device =
        let lt : node < q.nodes = omega (arith, slice_get_within given node told.on told.stands, all.count) in
        let left = all.left node told.on told.stands in
        own_opens disk pair q digest functions honest_spent new_is_left node (logs node) (seats node) (halted node) (all.nodes node lt) told.on left fault
        (told.refused.refused left.whole memory device)

    pub records_stand : RecordsStand disk pair q digest functions given
    records_stand node (journals, opened, bad) =
        let at = bad.at in
        let lt : node < q.nodes = omega (arith, slice_get_within journals node at.0 at.1, opened.size, all.count) in
        let p = found_at given node (omega (arith, lt, all.count)) in
        never_bad node (logs node) (seats node) (halted node) (all.nodes node lt) p.0 (all.left node p.0 p.1) at.0.0 at.0.1.items
        (opened.each node at.0 p.0 at.1 p.1) (length journals) (opened.size ∙ all.count) at.2

    pub offers_stand : AllHaveOwnTexts → OffersStand disk pair q digest functions given
    offers_stand own node (journals, opened, bad) =
        let at = bad.at in
        let lt : node < q.nodes = omega (arith, slice_get_within journals node at.0 at.1, opened.size, all.count) in
        let p = found_at given node (omega (arith, lt, all.count)) in
        none_refused own at.0.1.items
        (are_of node (logs node) (seats node) (halted node) (all.nodes node lt) p.0 (all.left node p.0 p.1) at.0.0 at.0.1.items (opened.each node at.0 p.0 at.1 p.1))
        at.2.stored at.2.written at.2.refused

pub left_journals_stand : {D : Type 0} (disk : disks.Ghosts D) (pair : pairs.Ghosts D) (q : Sizes)
    → ((p : D) (d : List ℕ) → disk.is_honest p → pair.old_may p d → IsSpent d)
    → ((p : D) (c : List ℕ) → disk.is_honest p → pair.new_may p c → disk.may_leave p c) → AllHaveOwnTexts → LeftJournalsStand disk pair q
left_journals_stand disk pair q honest_spent new_is_left own digest functions logs seats halted given all = (
  journals_stand disk pair q digest functions honest_spent new_is_left logs seats halted given all,
  records_stand disk pair q digest functions honest_spent new_is_left logs seats halted given all,
  offers_stand disk pair q digest functions honest_spent new_is_left logs seats halted given all own,
)
