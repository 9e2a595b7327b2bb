-- What a crash left of the nodes of a build opens again.
use Rattle.std.proofs.Common.{ℕ, ◌<◌, List, None, sym, subst, arith}
use Rattle.std.specs.Arc.{arc_value}
use Rattle.durable_model.specs.declared.disk.Disk as disks
use Rattle.durable_pair.specs.declared.pair.Pair as pairs
use Rattle.durable_pair.specs.Images.{IsSpent}
use Rattle.paxos_core_world.specs.Quorum.{AreQuorums, Sizes}
use Rattle.acceptor_log.specs.declared.log.Log.{Log}
use Rattle.rooms_hall.specs.declared.hall.Naming as naming
use Rattle.rooms_crash_heard.specs.Heard.{AllHearOf, back as way_back, forth, HearsOfAll}
use Rattle.rooms_crash_heard.proofs.Neighbours.{neighbours_hear}
use Rattle.farm_nodes_source.specs.declared.source.Source.{Source}
use Rattle.farm_nodes_crash.specs.Meeting.{HearAll}
use Rattle.farm_nodes_crash.specs.Rooms.{RoomsRest}
use Rattle.farm_nodes_crash_left.proofs.Accepted.{AllHaveOwnTexts}
use Rattle.farm_nodes_crash.proofs.AtRest.{met_nodes_rest}
use Rattle.farm_nodes_crash.proofs.Journals.{left_journals_stand}
use Rattle.farm_nodes_crash.proofs.Machine.{but_for_machine}
use Rattle.farm_nodes_crash.proofs.Reopening.{left_rooms_stand}
use Rattle.cfarm_build_meeting.specs.Twice.{MetTwice}
use Rattle.cfarm_build.specs.Built.{Built}
use Rattle.cfarm_build_crash.specs.Again.{OpensAgain, IsLeftOfBuild, functions_in}
use Rattle.cfarm_build_crash.proofs.Nodes.{log_at, met, node_at, seats_now, seats_then, was_left}

module _ {D : Type 0} (disk : disks.Ghosts D) (pair : pairs.Ghosts D) {H : Type 0} (h : naming.Ghosts H) (q : Sizes) (sizes : AreQuorums q) (source : Source)
    (given back : List D) (built : Built) (left : List D) (of : IsLeftOfBuild disk pair h q source given back built left) where
  pub some_nodes : 0 < q.nodes
  some_nodes = let two = sizes.least in omega (arith, two)

  abbrev pub some_log : Log D
  some_log = (node_at disk pair h q source given back built left of 0 some_nodes).0.log

  abbrev pub twice : MetTwice q (functions_in source) (seats_then disk pair h q source given back built left of) (seats_now disk pair h q source given back built left of)
  twice = met disk pair h q source given back built left of some_nodes

  -- the last node hears of all, and all of it again
  abbrev pub hear : HearAll q (functions_in source) twice.met.last (seats_then disk pair h q source given back built left of)
  hear = record {
    one = let is = twice.met.nodes in omega (arith, is);
    first = forth twice.met.last;
    second = way_back twice.met.last;
    between = twice.met.between;
    new = seats_now disk pair h q source given back built left of;
    met = twice.met.met;
    heard = subst (λ (n : ℕ). HearsOfAll (forth twice.met.last) n twice.met.last) (sym twice.met.nodes) (neighbours_hear twice.met.last).0;
    met_again = twice.met.met_again;
    hear = subst (λ (n : ℕ). AllHearOf (way_back twice.met.last) n twice.met.last) (sym twice.met.nodes) (neighbours_hear twice.met.last).1;
  }

  rest : RoomsRest q (functions_in source) (seats_then disk pair h q source given back built left of)
  rest = met_nodes_rest disk pair q source.digest (functions_in source) (log_at disk pair h q source given back built left of some_log)
      (seats_then disk pair h q source given back built left of) (λ i. None) (was_left disk pair h q source given back built left of some_log).nodes
      twice.met.last hear

pub build_opens_again : {D : Type 0} (disk : disks.Ghosts D) (pair : pairs.Ghosts D) {H : Type 0} (h : naming.Ghosts H) (q : Sizes) → AreQuorums q
    → ((p : D) (d : List ℕ) → disk.is_honest p → pair.old_may p d → IsSpent d)
    → ((p : D) (c : List ℕ) → disk.is_honest p → pair.new_may p c → disk.may_leave p c) → AllHaveOwnTexts
    → (source : Source) (given back : List D) (built : Built) (left : List D) → OpensAgain disk pair h q source given back built left
build_opens_again disk pair h q sizes honest_spent new_is_left own source given back built left of =
    let log = log_at disk pair h q source given back built left of (some_log disk pair h q sizes source given back built left of) in
    let seats = seats_then disk pair h q source given back built left of in
    let all = was_left disk pair h q source given back built left of (some_log disk pair h q sizes source given back built left of) in
    let stand = left_journals_stand disk pair q honest_spent new_is_left own source.digest (functions_in source) log seats (λ i. None) left all in
    let rooms = left_rooms_stand disk pair q honest_spent new_is_left source.digest (functions_in source) log seats (λ i. None) left all
    (rest disk pair h q sizes source given back built left of) in
    record {
      journals = stand.0;
      records = stand.1;
      offers = stand.2;
      rooms = rooms;
      opens = but_for_machine disk pair q source.digest (arc_value source.translated) left stand.0 stand.1 stand.2 rooms;
    }
