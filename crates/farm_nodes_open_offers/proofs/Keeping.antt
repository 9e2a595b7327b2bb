-- An offer among the records is what makes its node one that has offered.
use Rattle.std.proofs.Common.{◌≡◌, ℕ, Bool, true, false, cond, eqb, List, [], ◌∷◌, Option, refl}
use Rattle.std.specs.Prelude.{is_some}
use Rattle.paxos_core_world.specs.KeptPart.{KeptPart}
use Rattle.acceptor_log_form.specs.declared.record.Record.{Record}
use Rattle.acceptor_log_form.specs.declared.record.Record.TheVariants.{Offered, Started, Proposed, Promised, Accepted, Summary}
use Rattle.acceptor_log_form.specs.Text.{room_of}
use Rattle.acceptor_log_form.specs.Leaves.{left_from, kept_by_record}
use Rattle.farm_nodes_open_offers.specs.Written.{offer_by}

by_one : (k : KeptPart) (o : Option (List ℕ)) (r : Record) → k.offered ≡ is_some o → (kept_by_record k r).offered ≡ is_some (offer_by o r)
by_one k o (Offered room text) is = refl
by_one k o (Started room b) is = is
by_one k o (Proposed room b v) is = is
by_one k o (Promised room b) is = is
by_one k o (Accepted room b v) is = is
by_one k o (Summary room s p x) is = is

by_choice : (here : Bool) (k l : KeptPart) (o p : Option (List ℕ)) → k.offered ≡ is_some o → l.offered ≡ is_some p → (cond here k l).offered ≡ is_some (cond here o p)
by_choice true k l o p first second = first
by_choice false k l o p first second = second

pub offered_both : (rs : List Record) (room : ℕ) (k : KeptPart) (o : Option (List ℕ)) → k.offered ≡ is_some o → (left_from kept_by_record k rs room).offered ≡ is_some (left_from offer_by o rs room)
offered_both [] room k o is = is
offered_both (r ∷ rs) room k o is =
    offered_both rs room (cond (eqb (room_of r) room) (kept_by_record k r) k) (cond (eqb (room_of r) room) (offer_by o r) o)
    (by_choice (eqb (room_of r) room) (kept_by_record k r) k (offer_by o r) o (by_one k o r is) is)
