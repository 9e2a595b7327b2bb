-- What is said of journals and functions is said of the same told otherwise.
use Rattle.std.proofs.Common.{◌≡◌, ℕ, List, map, sym, ap, subst, ◌∙◌}
use Rattle.std.specs.Global.{Vec}
use Rattle.acceptor_log_form.specs.declared.record.Record.{Record}
use Rattle.paxos_core_world.specs.Quorum.{Sizes}
use Rattle.rooms_hall.specs.declared.hall.Naming as naming
use Rattle.farm_nodes_open_seats.specs.NumberedSeat.{NumberedSeat}
use Rattle.farm_nodes_open_lists.specs.Rows.{rows_of}
use Rattle.farm_nodes_open_seats.specs.RoomFault.{RoomFault}
use Rattle.farm_nodes_open_join.proofs.Moving.{map-map}
use Rattle.farm_nodes_open_seats.specs.Refused.{HasBadRecord, HasRefusedOffer, IsRoomUnopened}
use Rattle.farm_nodes_open_seats.specs.Seated.{AreSeated}

module _ {J : Type 0} (f g : ℕ) (js ks : List (J × Vec Record)) (same : f ≡ g) (are : js ≡ ks) where
  pub bad_of : (node : ℕ) → HasBadRecord f js node → HasBadRecord g ks node
  bad_of node told =
      subst (λ (n : ℕ). HasBadRecord n ks node) same (subst (λ (l : List (J × Vec Record)). HasBadRecord f l node) are told)

  pub refused_of : (node : ℕ) → HasRefusedOffer f js node → HasRefusedOffer g ks node
  refused_of node told =
      subst (λ (n : ℕ). HasRefusedOffer n ks node) same (subst (λ (l : List (J × Vec Record)). HasRefusedOffer f l node) are told)

  pub unopened_of : (q : Sizes) (room : ℕ) (fault : RoomFault) → IsRoomUnopened f js q room fault → IsRoomUnopened g ks q room fault
  unopened_of q room fault told =
      subst (λ (n : ℕ). IsRoomUnopened n ks q room fault) same (subst (λ (l : List (J × Vec Record)). IsRoomUnopened f l q room fault) are told)

  pub seated_of : {H : Type 0} {h : naming.Ghosts H} (q : Sizes) (rows more : List (List (NumberedSeat H h))) → rows ≡ more → AreSeated q f js rows → AreSeated q g ks more
  seated_of {H} {h} q rows more rows_are told =
      subst (λ (r : List (List (NumberedSeat H h))). AreSeated q g ks r) rows_are
      (subst (λ (n : ℕ). AreSeated q n ks rows) same (subst (λ (l : List (J × Vec Record)). AreSeated q f l rows) are told))

-- what stands in the lists of the nodes
pub rows_from : {N X : Type 0} (list : N → Vec X) (nodes : List N) (lists : List (Vec X)) → map list nodes ≡ lists → rows_of lists ≡ map (λ n. (list n).items) nodes
rows_from {N} {X} list nodes lists are = ap (λ (l : List (Vec X)). rows_of l) (sym are) ∙ map-map (λ (v : Vec X). v.items) list nodes
