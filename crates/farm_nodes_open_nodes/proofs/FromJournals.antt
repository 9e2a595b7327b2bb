-- What opens from journals, told of what they have acknowledged.
use Rattle.std.proofs.Common.{◌≡◌, ℕ, List, length, map, Option, Some, sym, ap, subst, ◌∙◌, arith}
use Rattle.std.specs.Prelude.{slice_get}
use Rattle.std.specs.Global.{Vec}
use Rattle.std.proofs.lemmas.List.{length-map}
use Rattle.std.proofs.lemmas.Option.{slice_get_within}
use Rattle.durable_model.specs.declared.disk.Disk as disks
use Rattle.durable_pair.specs.declared.pair.Pair as pairs
use Rattle.lang_base.specs.declared.language.Language as language
use Rattle.lang_base.specs.declared.pass.Pass as pass
use Rattle.rtl_language.specs.contracts.language.RtlLanguage.TheImpl as rtl_language
use Rattle.ltl.specs.contracts.language.LtlLanguage.TheImpl as ltl_language
use Rattle.linear_language.specs.contracts.language.LinearLanguage.TheImpl as linear_language
use Rattle.constprop_check.specs.contracts.pass.ConstPropPass.TheImpl as constants
use Rattle.farm_nodes_open_seats.specs.CsePass.TheImpl as expressions
use Rattle.farm_nodes_open_seats.specs.AllocPass.TheImpl as allocation
use Rattle.farm_nodes_open_seats.specs.LinearizePass.TheImpl as order
use Rattle.paxos_core_world.specs.KeptPart.{KeptPart}
use Rattle.paxos_core_world.specs.Quorum.{Sizes}
use Rattle.acceptor_log_form.specs.declared.record.Record.{Record}
use Rattle.acceptor_log.specs.Acknowledged.{acknowledged}
use Rattle.acceptor_log.specs.declared.log.Log.{Log}
use Rattle.offers.specs.declared.parts.Parts.{Parts}
use Rattle.farm_nodes_open_lists.specs.SeatValue.{SeatValue}
use Rattle.rooms_hall.specs.Claimed.{Claimed}
use Rattle.rooms_hall.specs.declared.hall.Naming as naming
use Rattle.farm_nodes_open_seats.specs.NumberedSeat.{NumberedSeat}
use Rattle.farm_nodes_open_seats.specs.Which.{Which}
use Rattle.farm_nodes_open_seats.specs.Which.TheVariants.{Constants, Expressions, Allocation, Order}
use Rattle.farm_nodes_open_journals.specs.Journals.{header_of, AreOpened, IsOpened}
use Rattle.farm_nodes_open_seats.specs.Nodes.{AreMade}
use Rattle.farm_nodes_open_seats.specs.Read.{AreKept}
use Rattle.farm_nodes_open_seats.specs.Checked.{AreOffers}
use Rattle.farm_nodes_open_nodes.specs.Back.{AreJournalsOn, IsJournalOn}
use Rattle.farm_nodes_open_nodes.specs.Opened.{AreOpenFromJournals, AreOpenIn}
use Rattle.farm_nodes_open_seats.specs.Seated.{AreSeated, AreSeatedIn, constants_seat, expressions_seat, allocation_seat, order_seat}
use Rattle.farm_nodes_open_seats.proofs.Lists.{found_at, map_at}

module _ {D : Type 0} (disk : disks.Ghosts D) (pair : pairs.Ghosts D) (q : Sizes) (digest : List ℕ) (given : List D) (journals : List (Log D × Vec Record)) (logs : List (Log D))
    (opened : AreOpened disk pair q digest given (length given) journals) (logs_are : logs ≡ map (λ (j : Log D × Vec Record). j.0) journals) where
  log_at : (i : ℕ) (log : Log D) → slice_get logs i ≡ Some log → (j : Log D × Vec Record) × (slice_get journals i ≡ Some j) × (j.0 ≡ log)
  log_at i log at = map_at (λ (j : Log D × Vec Record). j.0) journals i log (ap (λ l. slice_get l i) (sym logs_are) ∙ at)

  as_many : length logs ≡ length journals
  as_many = ap length logs_are ∙ length-map journals _

  on_disks : (i : ℕ) (d : D) (log : Log D) → slice_get given i ≡ Some d → slice_get logs i ≡ Some log → IsJournalOn disk pair q digest i d log
  on_disks i d log at there =
      let j : (j : Log D × Vec Record) × (slice_get journals i ≡ Some j) × (j.0 ≡ log) = log_at i log there in
      (j.0.1.items, subst (λ (l : Log D). IsOpened disk pair (header_of q digest i) d l j.0.1.items) j.2 (opened.each i j.0 d j.1 at))

  -- each is the journal on its disk
  pub journals_on : AreJournalsOn disk pair q digest given logs
  journals_on = record { count = as_many ∙ opened.size; each = on_disks }

  -- its records are what it has acknowledged
  records_are : (i : ℕ) (j : Log D × Vec Record) → slice_get journals i ≡ Some j → disk.is_honest j.0.disk → acknowledged disk.seen j.0 ≡ j.1.items
  records_are i j at honest =
      let d : (d : D) × (slice_get given i ≡ Some d) = found_at given i (omega (arith, slice_get_within journals i j at, opened.size)) in
      let is : IsOpened disk pair (header_of q digest i) d.0 j.0 j.1.items = opened.each i j d.0 at d.1 in
      is.acknowledged_are (is.honest.0 honest)

  -- what is so of its records is so of what it has acknowledged
  told : (P : ℕ → List Record → Type 0) (i : ℕ) (log : Log D) (j : Log D × Vec Record) → slice_get journals i ≡ Some j → j.0 ≡ log → P (length journals) j.1.items → disk.is_honest log.disk → P (length logs) (acknowledged disk.seen log)
  told P i log j at same holds =
      subst (λ (l : Log D). disk.is_honest l.disk → P (length logs) (acknowledged disk.seen l)) same
      (λ honest. subst (λ (rs : List Record). P (length logs) rs) (sym (records_are i j at honest)) (subst (λ (n : ℕ). P n j.1.items) (sym as_many) holds))

  -- in the rooms of a pass
  module _ {P A B C I O N : Type 0} (from : language.Ghosts A I) (to : language.Ghosts B O) (by : pass.Ghosts P A B C I O) (which : Which) (functions : ℕ) (kept : List (Vec KeptPart))
      (show : N → SeatValue (Parts I O C) × Claimed) (rows : List (List N)) (seated : AreSeatedIn from to by which q functions journals kept show rows) where
    offers_at : (i : ℕ) (log : Log D) (o : Vec (Option (Parts I O C))) → slice_get logs i ≡ Some log → slice_get seated.offers i ≡ Some o → disk.is_honest log.disk → AreOffers from to by which functions (acknowledged disk.seen log) o.items
    offers_at i log o at there =
        let j : (j : Log D × Vec Record) × (slice_get journals i ≡ Some j) × (j.0 ≡ log) = log_at i log at in
        told (λ (n : ℕ) (rs : List Record). AreOffers from to by which functions rs o.items) i log j.0 j.1 j.2 (seated.are_offers.each i j.0 o j.1 there)

    open_in : AreOpenIn disk q functions logs from to by which kept show rows
    open_in = record {
      offers = seated.offers;
      are_offers = record { count = seated.are_offers.count ∙ sym as_many; each = offers_at };
      opened = seated.opened;
    }

  module _ {H : Type 0} {h : naming.Ghosts H} (functions : ℕ) (rows : List (List (NumberedSeat H h))) (seated : AreSeated q functions journals rows) where
    kept_at : (i : ℕ) (log : Log D) (k : Vec KeptPart) → slice_get logs i ≡ Some log → slice_get seated.kept i ≡ Some k → disk.is_honest log.disk → AreKept functions (length logs) i (acknowledged disk.seen log) k.items
    kept_at i log k at there =
        let j : (j : Log D × Vec Record) × (slice_get journals i ≡ Some j) × (j.0 ≡ log) = log_at i log at in
        told (λ (n : ℕ) (rs : List Record). AreKept functions n i rs k.items) i log j.0 j.1 j.2 (seated.are_kept.each i j.0 k j.1 there)

    pub open_from : AreOpenFromJournals disk q functions logs rows
    open_from = record {
      kept = seated.kept;
      are_kept = record { count = seated.are_kept.count ∙ sym as_many; each = kept_at };
      settled = seated.settled;
      constants = open_in rtl_language.ghosts rtl_language.ghosts constants.ghosts Constants functions seated.kept (λ (s : NumberedSeat H h). constants_seat s) rows seated.constants;
      expressions = open_in rtl_language.ghosts rtl_language.ghosts expressions.ghosts Expressions functions seated.kept (λ (s : NumberedSeat H h). expressions_seat s) rows seated.expressions;
      allocation = open_in rtl_language.ghosts ltl_language.ghosts allocation.ghosts Allocation functions seated.kept (λ (s : NumberedSeat H h). allocation_seat s) rows seated.allocation;
      order = open_in ltl_language.ghosts linear_language.ghosts order.ghosts Order functions seated.kept (λ (s : NumberedSeat H h). order_seat s) rows seated.order;
    }
