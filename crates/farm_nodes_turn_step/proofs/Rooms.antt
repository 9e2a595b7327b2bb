-- The rooms of records in order.
use Rattle.std.proofs.Common.{◌≡◌, ℕ, ◌<◌, ◌≤◌, false, eqb, cond, get_or, List, [], ◌∷◌, refl, ap, ◌∙◌, arith}
use Rattle.std.proofs.lemmas.Bool.{ne_eqb}
use Rattle.std.proofs.lemmas.List.Elements.{All-head, All-tail}
use Rattle.std.proofs.lemmas.Option.{slice_get-get_or}
use Rattle.acceptor_log_form.specs.declared.record.Record.{Record}
use Rattle.acceptor_log_form.specs.Leaves.{left_from}
use Rattle.acceptor_log_form.specs.Order.{AreInOrder}
use Rattle.acceptor_log_form.specs.Text.{room_of}
use Rattle.farm_nodes_turn_step.specs.JournalAdvances.{AreOf}

-- they are of so many rooms
pub of_rooms : (count node rooms : ℕ) (rs : List Record) → AreInOrder count node rooms rs → AreOf rooms rs
of_rooms count node rooms rs order k d below = (order k (get_or rs k d) (slice_get-get_or rs k d below)).0

-- and leave nothing of others
pub none_of_others : {A : Type 0} (by : A → Record → A) (rooms m : ℕ) (rs : List Record) (before : A) → AreOf rooms rs → rooms ≤ m → left_from by before rs m ≡ before
none_of_others by rooms m [] before are over = refl
none_of_others by rooms m (r ∷ rs) before are over =
    let here : room_of r < rooms = All-head (λ (r : Record). room_of r < rooms) r rs are in
    let other : eqb (room_of r) m ≡ false = ne_eqb (room_of r) m (λ same. omega (arith, here, over, same)) in
    ap (λ t. left_from by (cond t (by before r) before) rs m) other
    ∙ none_of_others by rooms m rs before (All-tail (λ (r : Record). room_of r < rooms) r rs are) over
