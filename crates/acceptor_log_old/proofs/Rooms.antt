-- The rooms that records name.
use Rattle.std.proofs.Common.{◌≡◌, ℕ, zero, suc, ◌+◌, ◌-◌, ◌<◌, ◌≤◌, cond, List, [], ◌∷◌, ◌++◌, get_or, Some, None, refl, sym, ◌∙◌, ap, subst, arith, append-nil}
use Rattle.std.specs.Prelude.{◌^◌}
use Rattle.std.specs.List.{AllByRecursion}
use Rattle.std.proofs.lemmas.Bool.{ne_eqb}
use Rattle.std.proofs.lemmas.List.Elements.{recursion_from_All, All-get_or, All-from_get_or}
use Rattle.std.proofs.lemmas.Option.{slice_get_within, slice_get-get_or, get_or_from_slice_get}
use Rattle.paxos_core_world.specs.KeptPart.{nothing_kept}
use Rattle.acceptor_log_form.specs.declared.record.Record.{Record}
use Rattle.acceptor_log_form.specs.declared.record.Record.TheVariants.{Offered, Started, Proposed, Promised, Accepted, Summary}
use Rattle.acceptor_log_form.specs.Text.{room_of}
use Rattle.acceptor_log_form.specs.Leaves.{kept_by_record, kept_in, left_from}
use Rattle.acceptor_log_form.specs.Order.{AreInOrder}
use Rattle.acceptor_log_old.specs.Migrated.{AreOfRooms, first_offer_in, summary_of, offered, of_room, migrated_below, migrated}
use Rattle.acceptor_log_old.proofs.Well.{well-in_order, well-promised}
use Rattle.acceptor_log_old.proofs.Kept.{kept-migrated}
use Rattle.acceptor_log_old.proofs.InOrder.{below-in_order}

pub in_order-wider : (n i rooms more : ℕ) (rs : List Record) → rooms ≤ more → AreInOrder n i rooms rs → AreInOrder n i more rs
in_order-wider n i rooms more rs least order k r got = let may = order k r got in (omega (arith, may.0, least), may.1)

pub in_order-narrower : (n i rooms more : ℕ) (rs : List Record) → AreOfRooms rooms rs → AreInOrder n i more rs → AreInOrder n i rooms rs
in_order-narrower n i rooms more rs all order k r got =
    (subst (λ x. room_of x < rooms) (get_or_from_slice_get rs k r r got) (All-get_or (λ x. room_of x < rooms) rs k r (slice_get_within rs k r got) all), (order k r got).1)

module _ (rooms room : ℕ) (beyond : rooms ≤ room) where
  pub no_offer : (rs : List Record) → AllByRecursion (λ r. room_of r < rooms) rs → first_offer_in rs room ≡ None
  no_offer [] all = refl
  no_offer (Offered m o ∷ rs) all = ap (λ t. cond t (Some o) (first_offer_in rs room)) (ne_eqb m room (λ same. absurd (omega (arith, same, all.0, beyond)))) ∙ no_offer rs all.1
  no_offer (Started m b ∷ rs) all = no_offer rs all.1
  no_offer (Proposed m b v ∷ rs) all = no_offer rs all.1
  no_offer (Promised m b ∷ rs) all = no_offer rs all.1
  no_offer (Accepted m b v ∷ rs) all = no_offer rs all.1
  no_offer (Summary m s p x ∷ rs) all = no_offer rs all.1

  pub none_left : {A : Type 0} (by : A → Record → A) (rs : List Record) (k : A) → AllByRecursion (λ r. room_of r < rooms) rs → left_from by k rs room ≡ k
  none_left by [] k all = refl
  none_left by (r ∷ rs) k all =
      ap (λ t. left_from by (cond t (by k r) k) rs room) (ne_eqb (room_of r) room (λ same. absurd (omega (arith, same, all.0, beyond)))) ∙ none_left by rs k all.1

  none_put_down : (rs : List Record) → AreOfRooms rooms rs → of_room rs room ≡ []
  none_put_down rs all =
      let each = recursion_from_All (λ r. room_of r < rooms) rs all in
      ap (λ o. offered room o ++ summary_of room (kept_in rs room)) (no_offer rs each)
      ∙ ap (λ k. summary_of room k) (none_left kept_by_record rs nothing_kept each)

beyond_below : (rs : List Record) (rooms more : ℕ) → AreOfRooms rooms rs → migrated_below rs (more + rooms) ≡ migrated_below rs rooms
beyond_below rs rooms zero all = let is : 0 + rooms ≡ rooms = omega arith in ap (λ (m : ℕ). migrated_below rs m) is
beyond_below rs rooms (suc more) all =
    let next : suc more + rooms ≡ suc (more + rooms) = omega arith in
    ap (λ (m : ℕ). migrated_below rs m) next
    ∙ ap (λ l. migrated_below rs (more + rooms) ++ l) (none_put_down rooms (more + rooms) (omega arith) rs all)
    ∙ append-nil (migrated_below rs (more + rooms)) ∙ beyond_below rs rooms more all

up_to : (rs : List Record) (rooms all : ℕ) → AreOfRooms rooms rs → rooms ≤ all → migrated_below rs all ≡ migrated_below rs rooms
up_to rs rooms all within most =
    let is : all ≡ (all - rooms) + rooms = omega (arith, most) in
    ap (λ (m : ℕ). migrated_below rs m) is ∙ beyond_below rs rooms (all - rooms) within

-- of rooms that no record names nothing is put down
pub migrated-rooms : (rs : List Record) (rooms : ℕ) → AreOfRooms rooms rs → rooms ≤ 2 ^ 16 → migrated rs ≡ migrated_below rs rooms
unfolding migrated
migrated-rooms rs rooms within most = up_to rs rooms (2 ^ 16) within most

of_rooms-in_order : (n i rooms : ℕ) (rs : List Record) → AreInOrder n i rooms rs → AreOfRooms rooms rs
of_rooms-in_order n i rooms rs order =
    All-from_get_or (λ x. room_of x < rooms) rs (Started 0 0) (λ k less. (order k (get_or rs k (Started 0 0)) (slice_get-get_or rs k (Started 0 0) less)).0)

pub migrated-in_order : (n i rooms : ℕ) (rs : List Record) → rooms ≤ 2 ^ 16 → AreInOrder n i rooms rs → AreInOrder n i rooms (migrated rs)
migrated-in_order n i rooms rs most order =
    subst (AreInOrder n i rooms) (sym (migrated-rooms rs rooms (of_rooms-in_order n i rooms rs order) most))
    (below-in_order n i rooms rs rooms order (omega arith))

pub migrated-kept : (n i : ℕ) (rs : List Record) → AreInOrder n i (2 ^ 16) rs → (room : ℕ) → room < 2 ^ 16 → kept_in (migrated rs) room ≡ kept_in rs room
migrated-kept n i rs order room less =
    kept-migrated rs room less (well-promised n (kept_in rs room).promised (kept_in rs room).accepted (well-in_order n i (2 ^ 16) rs order room).1)
