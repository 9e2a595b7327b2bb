-- What is linked over what a crash left is what was built.
use Rattle.std.proofs.Common.{◌≡◌, ◌⊎◌, ℕ, suc, ◌<◌, true, List, [], ◌++◌, length, Option, Some, None, append-nil, sym, ap, subst, ◌∙◌, inl, inr, arith}
use Rattle.std.specs.Global.{Vec}
use Rattle.std.specs.Prelude.{IsTrue, slice_get}
use Rattle.std.proofs.lemmas.Option.{slice_get_within}
use Rattle.durable_model.specs.declared.disk.Disk as disks
use Rattle.durable_pair.specs.declared.pair.Pair as pairs
use Rattle.durable_pair.specs.Images.{IsSpent}
use Rattle.lang.specs.Form.{program_text}
use Rattle.linear_language.specs.Spelling.{spelling}
use Rattle.c_checker_rules.specs.Checked.{program_tree}
use Rattle.cminor_lowering.specs.Programs.{low}
use Rattle.rtlgen_definition.specs.Gen.{gen}
use Rattle.paxos_core_world.specs.KeptPart.{KeptPart}
use Rattle.paxos_core_world.specs.Quorum.{AreQuorums, Sizes}
use Rattle.paxos_core_world.specs.Step.{HasOffered}
use Rattle.paxos_core_world.specs.World.{nodes_of}
use Rattle.acceptor_log_form.specs.declared.record.Record.{Record}
use Rattle.acceptor_log.specs.Acknowledged.{acknowledged}
use Rattle.acceptor_log.specs.declared.log.Log.{Log}
use Rattle.rooms_hall.specs.declared.hall.Naming as naming
use Rattle.rooms_words.proofs.Theorem.{chosen_backed, holds}
use Rattle.rooms_words.specs.Events.{labels_of}
use Rattle.rooms_crash.proofs.Keeping.{stands_known}
use Rattle.rooms_crash.specs.Meetings.{IsSeatOf}
use Rattle.rooms_crash_heard.specs.Heard.{forth}
use Rattle.farm_nodes_source.specs.declared.source.Source.{Source}
use Rattle.farm_nodes_meet_seats.specs.Learned.{learned_offer}
use Rattle.farm_nodes_meet_seats.proofs.Seen.{learned_at}
use Rattle.farm_nodes_turn_offer.specs.Told.{last_offer_in, IsToldAs}
use Rattle.farm_nodes_turn_node.specs.Fours.{four_of, fours_of, words_of}
use Rattle.farm_nodes_turn_node.specs.NumberedSeat.{NumberedSeat}
use Rattle.farm_nodes_turn_node.specs.SeatState.{SeatState, seen_world}
use Rattle.farm_nodes_turn_node.proofs.Places.{found, map_at, map_length, mapped}
use Rattle.farm_nodes_turn_passes.specs.Numbers.{room_at}
use Rattle.farm_nodes_turn_passes.specs.Offers.{IsConstants, IsExpressions, IsAllocation, IsOrder}
use Rattle.farm_nodes_turn_passes.specs.Texts.{IsOwnTextIn, pass_texts}
use Rattle.farm_nodes_turn_passes.specs.declared.which.Which.{Which}
use Rattle.farm_nodes_turn_passes.specs.declared.which.Which.TheVariants.{Constants, Expressions, Allocation, Order}
use Rattle.farm_nodes_restart_records.proofs.Rooms.{function_at, pass_at_room}
use Rattle.farm_nodes_link.specs.Learned.{FourOffers, IsUndecided, learned_by, learned_four}
use Rattle.farm_nodes_link.specs.Offered.{linked_offers}
use Rattle.farm_nodes_crash.specs.Again.{AreOpenedOn}
use Rattle.farm_nodes_crash_left.specs.Left.{IsNode, NodeSeats}
use Rattle.farm_nodes_crash.proofs.AtRest.{node_seat}
use Rattle.farm_nodes_crash.proofs.Heard.{heard_is_learned_again}
use Rattle.farm_nodes_crash.proofs.Meeting.{counted as counted_on}
use Rattle.farm_nodes_crash.proofs.Nodes.{own_records, own_stands}
use Rattle.cfarm_build_meeting.proofs.Meets.{all_here, seats_of}
use Rattle.cfarm_build.specs.Alike.{HaveCounted}
use Rattle.cfarm_build.specs.Neighbours.{EachTwo}
use Rattle.cfarm_build.specs.Node.{Node, node}
use Rattle.cfarm_build.specs.Resting.{Resting}
use Rattle.cfarm_build.specs.Built.{Built, nodes_seen}
use Rattle.cfarm_build_crash.specs.Again.{LinksAgain, IsLeftOfBuild, functions_in, program_of_seats}
use Rattle.cfarm_build_crash.specs.Later.{AreLaterSeats, SeesTextIn}
use Rattle.cfarm_build_crash.proofs.Left.{hear, some_log, some_nodes}
use Rattle.cfarm_build_crash.proofs.Nodes.{is_node, left_long, left_so, log_at, met, node_at, seats_then, was_left}
use Rattle.cfarm_build_crash.proofs.Numbers.{HasNumber, one_number}
use Rattle.cfarm_build_crash.proofs.Offers.{AreFour, AreToldApart, are_four, decided_at, equal_lists, same_offer, same_some}

-- the offers of the four passes are told apart by their texts
pub record AllToldApart : Type 0 where
  pub constants : AreToldApart IsConstants
  pub expressions : AreToldApart IsExpressions
  pub allocation : AreToldApart IsAllocation
  pub order : AreToldApart IsOrder

-- the four that were learned of a function
four_learned : {H : Type 0} {h : naming.Ghosts H} (s : NumberedSeat H h) (all : FourOffers) → learned_four s ≡ Some all
    → AreFour (learned_offer s.seat.first) (learned_offer s.seat.second) (learned_offer s.seat.third) (learned_offer s.seat.fourth) all
four_learned s all e = are_four (learned_offer s.seat.first) (learned_offer s.seat.second) (learned_offer s.seat.third) (learned_offer s.seat.fourth) all e

-- the number that was learned of a pass
number_of : {H : Type 0} {h : naming.Ghosts H} (s : NumberedSeat H h) (all : FourOffers) → learned_four s ≡ Some all → (pass : Which)
    → (v : ℕ) × ((words_of (four_of s) pass).node.learned ≡ Some v)
number_of s all e Constants = let a = learned_at s.seat.first s.seat.first.words.node.learned all.constants (four_learned s all e).constants in (a.value, a.learned)
number_of s all e Expressions = let a = learned_at s.seat.second s.seat.second.words.node.learned all.expressions (four_learned s all e).expressions in (a.value, a.learned)
number_of s all e Allocation = let a = learned_at s.seat.third s.seat.third.words.node.learned all.allocation (four_learned s all e).allocation in (a.value, a.learned)
number_of s all e Order = let a = learned_at s.seat.fourth s.seat.fourth.words.node.learned all.order (four_learned s all e).order in (a.value, a.learned)

-- the offers of a pass are one
abbrev SameIn : Which → FourOffers → FourOffers → Type 0
SameIn Constants x y = x.constants ≡ y.constants
SameIn Expressions x y = x.expressions ≡ y.expressions
SameIn Allocation x y = x.allocation ≡ y.allocation
SameIn Order x y = x.order ≡ y.order

same_four : (x y : FourOffers) → ((pass : Which) → SameIn pass x y) → x ≡ y
same_four x y same = λ i. record { constants = same Constants i; expressions = same Expressions i; allocation = same Allocation i; order = same Order i }

same_in : (apart : AllToldApart) {H L : Type 0} {h : naming.Ghosts H} {l : naming.Ghosts L} (w : NumberedSeat H h) (s : NumberedSeat L l) (all again : FourOffers)
    → learned_four w ≡ Some all → learned_four s ≡ Some again → (pass : Which) (v u : ℕ) (text : List ℕ) → (words_of (four_of w) pass).node.learned ≡ Some v
    → (words_of (four_of s) pass).node.learned ≡ Some u → v ≡ u → (words_of (four_of w) pass).node.me ≡ v → IsOwnTextIn pass_texts pass (four_of w) text
    → SeesTextIn pass (four_of s) v text → SameIn pass again all
same_in apart w s all again ew es Constants v u text ev eu same me own sees =
    same_offer IsConstants apart.constants w.seat.first s.seat.first v u text ev eu same me own sees all.constants again.constants
    (four_learned w all ew).constants (four_learned s again es).constants
same_in apart w s all again ew es Expressions v u text ev eu same me own sees =
    same_offer IsExpressions apart.expressions w.seat.second s.seat.second v u text ev eu same me own sees all.expressions again.expressions
    (four_learned w all ew).expressions (four_learned s again es).expressions
same_in apart w s all again ew es Allocation v u text ev eu same me own sees =
    same_offer IsAllocation apart.allocation w.seat.third s.seat.third v u text ev eu same me own sees all.allocation again.allocation
    (four_learned w all ew).allocation (four_learned s again es).allocation
same_in apart w s all again ew es Order v u text ev eu same me own sees =
    same_offer IsOrder apart.order w.seat.fourth s.seat.fourth v u text ev eu same me own sees all.order again.order
    (four_learned w all ew).order (four_learned s again es).order

-- a node whose offer is learned has made it
was_offered : (q : Sizes) (i : ℕ) (s : SeatState) → IsSeatOf q i s → (v : ℕ) → s.node.learned ≡ Some v → HasOffered q.nodes (seen_world s).nodes v
was_offered q i s seat v e =
    let o = s.view.opening in
    let inv = holds o.quorums (nodes_of o.kept) (labels_of s.view.seen) seat.stands.legal in
    let chosen = inv.learned s.node.me v ((stands_known s seat.stands).learned v e) in
    subst (λ (x : Sizes). HasOffered x.nodes (seen_world s).nodes v) (sym seat.stands.quorums ∙ seat.quorums)
    (inv.offered chosen.0 v (chosen_backed o.quorums (seen_world s) inv.sizes chosen.0 v chosen.1))

module _ {D : Type 0} (disk : disks.Ghosts D) (pair : pairs.Ghosts D) {H : Type 0} (h : naming.Ghosts H) (q : Sizes) (sizes : AreQuorums q)
    (honest_spent : (p : D) (d : List ℕ) → disk.is_honest p → pair.old_may p d → IsSpent d)
    (new_is_left : (p : D) (c : List ℕ) → disk.is_honest p → pair.new_may p c → disk.may_leave p c) (apart : AllToldApart)
    (source : Source) (given back : List D) (built : Built) (left : List D) (of : IsLeftOfBuild disk pair h q source given back built left) where
  abbrev nodes : List (Resting D H h)
  nodes = of.is_built.nodes

  abbrev functions : ℕ
  functions = functions_in source

  seen_at : (i : ℕ) (n : Resting D H h) → slice_get nodes i ≡ Some n → slice_get (nodes_seen nodes) i ≡ Some (node n.log n.seats.items n.halted)
  seen_at i n e = map_at (λ (x : Resting D H h). node x.log x.seats.items x.halted) nodes i n e

  counted : EachTwo (λ n m. HaveCounted n.seats.items m.seats.items) nodes
  counted k n m en em = of.is_built.are.makes.counted k (node n.log n.seats.items n.halted) (node m.log m.seats.items m.halted) (seen_at k n en) (seen_at (suc k) m em)

  seats_long : (i : ℕ) (n : Resting D H h) → slice_get nodes i ≡ Some n → length n.seats.items ≡ functions
  seats_long i n e = sym (map_length (λ (s : NumberedSeat H h). four_of s) n.seats.items) ∙ (is_node disk pair h q source given back built left of i n e).functions_are

  abbrev first_learned : List (Option FourOffers)
  first_learned = learned_by of.is_built.are.makes.node.seats

  learned_same : (i : ℕ) (n : Resting D H h) → slice_get nodes i ≡ Some n → learned_by n.seats.items ≡ first_learned
  learned_same i n e = all_here (λ (x : Node D H h). learned_by x.seats ≡ first_learned) (nodes_seen nodes) i (node n.log n.seats.items n.halted) of.is_built.are.makes.same (seen_at i n e)

  first_decided : IsUndecided first_learned → ⊥
  first_decided = all_here (λ (x : Node D H h). IsUndecided (learned_by x.seats) → ⊥) (nodes_seen nodes) 0 of.is_built.are.makes.node of.is_built.are.makes.decided of.is_built.are.makes.first

  -- in the rooms of one function
  module _ (f : ℕ) (low : f < functions) (all : FourOffers) (all_is : slice_get first_learned f ≡ Some (Some all)) where
    four_at : (i : ℕ) (n : Resting D H h) → slice_get nodes i ≡ Some n → (s : NumberedSeat H h) → slice_get n.seats.items f ≡ Some s → learned_four s ≡ Some all
    four_at i n e s at =
        let there = map_at (λ (x : NumberedSeat H h). learned_four x) n.seats.items f s at in
        same_some (slice_get first_learned f) (learned_four s) (Some all) (ap (λ (l : List (Option FourOffers)). slice_get l f) (sym (learned_same i n e)) ∙ there) all_is

    seat_at : (i : ℕ) (n : Resting D H h) → slice_get nodes i ≡ Some n → (s : NumberedSeat H h) × (slice_get n.seats.items f ≡ Some s) × (learned_four s ≡ Some all)
    seat_at i n e =
        let s = found n.seats.items f (omega (arith, low, seats_long i n e)) in
        (s.0, s.1, four_at i n e s.0 s.1)

    module _ (pass : Which) where
      abbrev Number : ℕ → ℕ → Type 0
      Number = HasNumber (λ (n : Resting D H h). n.seats.items) nodes functions seats_long counted f pass

      number_at : (i : ℕ) → i < q.nodes → (v : ℕ) × Number i v
      number_at i lt =
          let n = node_at disk pair h q source given back built left of i lt in
          let s = seat_at i n.0 n.1 in
          let v = number_of s.0 all s.2 pass in
          (v.0, record { node = n.0; there = n.1; seat = s.0; at = s.1; learned = v.1 })

      seat_of : (i v : ℕ) (n : Number i v) → IsSeatOf q i (words_of (four_of n.seat) pass)
      seat_of i v n = node_seat disk pair q source.digest functions i n.node.log (fours_of n.node.seats.items) None
          (is_node disk pair h q source given back built left of i n.node n.there) f pass (four_of n.seat)
          (map_at (λ (x : NumberedSeat H h). four_of x) n.node.seats.items f n.seat n.at)

      abbrev last : ℕ
      last = (met disk pair h q source given back built left of (some_nodes disk pair h q sizes source given back built left of)).met.last

      last_low : last < q.nodes
      last_low = let is = (met disk pair h q source given back built left of (some_nodes disk pair h q sizes source given back built left of)).met.nodes in omega (arith, is)

      -- what the last node learned, and so all
      last_number : (v : ℕ) × Number last v
      last_number = number_at last last_low

      abbrev v : ℕ
      v = last_number.0

      offered_there : HasOffered q.nodes (seen_world (words_of (four_of last_number.1.seat) pass)).nodes v
      offered_there = was_offered q last (words_of (four_of last_number.1.seat) pass) (seat_of last v last_number.1) v last_number.1.learned

      -- the node whose offer it is
      own_number : Number v v
      own_number =
          let u = number_at v offered_there.0 in
          let w = number_at 0 (some_nodes disk pair h q sizes source given back built left of) in
          let same = one_number (λ (n : Resting D H h). n.seats.items) nodes functions seats_long counted f pass v last w.0 u.0 v low w.1 u.1 last_number.1 in
          record { node = u.1.node; there = u.1.there; seat = u.1.seat; at = u.1.at; learned = u.1.learned ∙ ap (λ (x : ℕ). Some x) same }

      abbrev own : SeatState
      own = words_of (four_of own_number.seat) pass

      own_seat : IsSeatOf q v own
      own_seat = seat_of v v own_number

      own_offered : own.node.kept.offered ≡ true
      own_offered =
          let there = was_offered q v own own_seat v own_number.learned in
          own_seat.stands.made (subst (λ (k : ℕ). IsTrue ((seen_world own).nodes k).offered) (sym own_seat.me) there.1)

      abbrev own_node : IsNode disk pair q source.digest functions v own_number.node.log (fours_of own_number.node.seats.items) None
      own_node = is_node disk pair h q source given back built left of v own_number.node own_number.there

      abbrev told : List Record
      told = (own_node.sound.upto own_node.honest).0

      -- its journal has the text
      own_told : IsToldAs (IsOwnTextIn pass_texts pass (four_of own_number.seat)) (last_offer_in told (room_at f pass))
      own_told =
          let four = four_of own_number.seat in
          let at = ap (λ (k : ℕ). slice_get (fours_of own_number.node.seats.items) k) (function_at f pass)
          ∙ map_at (λ (x : NumberedSeat H h). four_of x) own_number.node.seats.items f own_number.seat own_number.at in
          let offered = subst (λ (w : Which). (words_of four w).node.kept.offered ≡ true) (sym (pass_at_room f pass)) own_offered in
          subst (λ (w : Which). IsToldAs (IsOwnTextIn pass_texts w four) (last_offer_in told (room_at f pass))) (pass_at_room f pass)
          ((own_node.sound.upto own_node.honest).1.leave.offers (room_at f pass) four at offered)

      module _ (again : List (Log D)) (kept : List (Vec KeptPart)) (opened : AreOpenedOn disk pair q source.digest functions left again kept)
          {L : Type 0} {l : naming.Ghosts L} (later : List (NumberedSeat L l)) (are : AreLaterSeats disk q functions again kept later)
          (s : NumberedSeat L l) (there : slice_get later f ≡ Some s) (others : FourOffers) (others_are : learned_four s ≡ Some others) where
        four_there : slice_get (fours_of later) f ≡ Some (four_of s)
        four_there = map_at (λ (x : NumberedSeat L l). four_of x) later f s there

        later_number : (u : ℕ) × ((words_of (four_of s) pass).node.learned ≡ Some u)
        later_number = number_of s others others_are pass

        -- the number is learned again
        one_again : v ≡ later_number.0
        one_again =
            let twice = met disk pair h q source given back built left of (some_nodes disk pair h q sizes source given back built left of) in
            let log = some_log disk pair h q sizes source given back built left of in
            let all_left = was_left disk pair h q source given back built left of log in
            let n = last_number.1 in
            let size = counted_on q functions (forth last) (seats_then disk pair h q source given back built left of) twice.met.between twice.met.met
            (λ i lt. (all_left.nodes i lt).functions_are) last last_low in
            let b = found (twice.met.between last) f (omega (arith, low, size)) in
            let now = ap (λ (x : NodeSeats). slice_get x f) (seats_of (λ (x : Resting D H h). x.seats.items) nodes last n.node n.there)
            ∙ map_at (λ (x : NumberedSeat H h). four_of x) n.node.seats.items f n.seat n.at in
            let known = twice.knew f pass b.0 (four_of n.seat) v b.1 now n.learned in
            heard_is_learned_again disk pair q sizes honest_spent new_is_left source.digest functions (log_at disk pair h q source given back built left of log)
            (seats_then disk pair h q source given back built left of) (λ i. None) left all_left last (hear disk pair h q sizes source given back built left of)
            again kept opened f pass b.0 (words_of (four_of s) pass) low b.1 (are.rooms f pass (four_of s) four_there) v later_number.0 known later_number.1

        left_at : (p : D) × (slice_get left v ≡ Some p)
        left_at = let low_v = offered_there.0 in found left v (omega (arith, low_v, left_long disk pair h q source given back built left of))

        log_again : (j : Log D) × (slice_get again v ≡ Some j)
        log_again =
            let low_v = offered_there.0 in
            found again v (omega (arith, low_v, opened.journals.count, left_long disk pair h q source given back built left of))

        -- and the journal tells the text again
        told_again : last_offer_in (acknowledged disk.seen log_again.0) (room_at f pass) ≡ Some own_told.0
        told_again =
            let on = opened.journals.each v left_at.0 log_again.0 left_at.1 log_again.1 in
            let is_left = left_so disk pair h q source given back built left of v own_number.node left_at.0 own_number.there left_at.1 in
            let either = own_records disk pair q source.digest functions honest_spent new_is_left v own_number.node.log (fours_of own_number.node.seats.items) None own_node
            left_at.0 is_left on.0
            (own_stands disk pair q source.digest functions honest_spent new_is_left v own_number.node.log (fours_of own_number.node.seats.items) None own_node
            left_at.0 is_left log_again.0 on.0 on.1) in
            ap (λ (rs : List Record). last_offer_in rs (room_at f pass)) (on.1.acknowledged_are is_left.whole ∙ as_told on.0 either) ∙ own_told.1
          where
            as_told : (rs : List Record) → (rs ≡ told) ⊎ (rs ≡ told ++ []) → rs ≡ told
            as_told rs (inl e) = e
            as_told rs (inr e) = e ∙ append-nil told

        one_offer : SameIn pass others all
        one_offer =
            same_in apart own_number.seat s all others (four_at v own_number.node own_number.there own_number.seat own_number.at) others_are pass v later_number.0 own_told.0 own_number.learned
            later_number.1 one_again own_seat.me own_told.2
            (are.offers f pass (four_of s) four_there v log_again.0 own_told.0 log_again.1 told_again)

  module _ (again : List (Log D)) (kept : List (Vec KeptPart)) (opened : AreOpenedOn disk pair q source.digest functions left again kept)
      {L : Type 0} {l : naming.Ghosts L} (later : List (NumberedSeat L l)) (are : AreLaterSeats disk q functions again kept later)
      (decided : IsUndecided (learned_by later) → ⊥) where
    first_node : (n : Resting D H h) × (slice_get nodes 0 ≡ Some n)
    first_node = node_at disk pair h q source given back built left of 0 (some_nodes disk pair h q sizes source given back built left of)

    first_long : length first_learned ≡ functions
    first_long =
        ap (λ (o : List (Option FourOffers)). length o) (sym (learned_same 0 first_node.0 first_node.1))
        ∙ (map_length (λ (x : NumberedSeat H h). learned_four x) first_node.0.seats.items ∙ seats_long 0 first_node.0 first_node.1)

    one_function : (f : ℕ) (a b : Option FourOffers) → slice_get (learned_by later) f ≡ Some a → slice_get first_learned f ≡ Some b → a ≡ b
    one_function f a b ea eb =
        let x = decided_at (learned_by later) decided f a ea in
        let y = decided_at first_learned first_decided f b eb in
        let within = slice_get_within first_learned f b eb in
        let low : f < functions = omega (arith, within, first_long) in
        let s = mapped (λ (z : NumberedSeat L l). learned_four z) later f a ea in
        let all_is = eb ∙ ap (λ (o : Option FourOffers). Some o) y.1 in
        let same = same_four x.0 y.0 (λ pass. one_offer f low y.0 all_is pass again kept opened later are s.0 s.1 x.0 (s.2 ∙ x.1)) in
        x.1 ∙ (ap (λ (o : FourOffers). Some o) same ∙ sym y.1)

    learned_again : learned_by later ≡ first_learned
    learned_again = equal_lists (learned_by later) first_learned
        (map_length (λ (z : NumberedSeat L l). learned_four z) later ∙ (are.count ∙ sym first_long)) one_function

    pub links_same : program_of_seats source later ≡ built.program.items
    links_same =
        let linked = of.is_built.are.makes.linked in
        let first = all_here (λ (x : Node D H h). linked.program ≡ linked_offers (gen (low (program_tree source.program))) (learned_by x.seats)) (nodes_seen nodes) 0
        of.is_built.are.makes.node linked.linked of.is_built.are.makes.first in
        ap (λ (o : List (Option FourOffers)). program_text 4 spelling (linked_offers (gen (low (program_tree source.program))) o)) learned_again
        ∙ (ap (λ p. program_text 4 spelling p) (sym first) ∙ sym linked.text)

pub build_links_again : {D : Type 0} (disk : disks.Ghosts D) (pair : pairs.Ghosts D) {H : Type 0} (h : naming.Ghosts H) (q : Sizes) → AreQuorums q
    → ((p : D) (d : List ℕ) → disk.is_honest p → pair.old_may p d → IsSpent d)
    → ((p : D) (c : List ℕ) → disk.is_honest p → pair.new_may p c → disk.may_leave p c) → AllToldApart
    → (source : Source) (given back : List D) (built : Built) (left : List D) {L : Type 0} {l : naming.Ghosts L} (later : List (NumberedSeat L l))
    → LinksAgain disk pair h q source given back built left later
build_links_again disk pair h q sizes honest_spent new_is_left apart source given back built left later of again kept opened are decided =
    links_same disk pair h q sizes honest_spent new_is_left apart source given back built left of again kept opened later are decided
