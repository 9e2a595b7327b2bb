-- Whether two seats are of one room, and that a meeting keeps each of its run in either case.
use Rattle.std.proofs.Common.{◌≡◌, ◌≢◌, ◌⊎◌, ℕ, List, [], ◌∷◌, refl, sym, ap, ◌∙◌, subst, inl, inr}
use Rattle.std.proofs.lemmas.Bool.{cases_eq}
use Rattle.atomic_table.specs.Seated.{TableId}
use Rattle.farm_nodes_meet_seats.specs.SeatValue.{SeatValue, IsOneRoom}
use Rattle.rooms_cells.specs.Seen.{names_of}
use Rattle.rooms_table.specs.RoomAt.{RoomAt}
use Rattle.farm_nodes_meet_seats.specs.OfRun.{IsOfRun}
use Rattle.farm_nodes_meet_seats.proofs.Keeping.{met_of_run}
use Rattle.farm_nodes_meet_seats.specs.Rooms.{MetIn}
use Rattle.farm_nodes_meet_seats.specs.Held.{Numbered}

abbrev Decides : Type 0 → Type 0
Decides A = (x y : A) → (x ≡ y) ⊎ (x ≢ y)

lists : Decides (List ℕ)
lists [] [] = inl refl
lists [] (y ∷ ys) = inr (λ (e : [] ≡ y ∷ ys). absurd (cc))
lists (x ∷ xs) [] = inr (λ (e : x ∷ xs ≡ []). absurd (cc))
lists (x ∷ xs) (y ∷ ys) = at (cases_eq x y) (lists xs ys)
  where
    at : (x ≡ y) ⊎ (x ≢ y) → (xs ≡ ys) ⊎ (xs ≢ ys) → (x ∷ xs ≡ y ∷ ys) ⊎ (x ∷ xs ≢ y ∷ ys)
    at (inl e) (inl f) = inl (λ i. e i ∷ f i)
    at (inl e) (inr n) = inr (λ (p : x ∷ xs ≡ y ∷ ys). n (cc))
    at (inr n) d = inr (λ (p : x ∷ xs ≡ y ∷ ys). n (cc))

pairs : {A B : Type 0} → Decides A → Decides B → Decides (A × B)
pairs {A} {B} da db x y = at (da x.0 y.0) (db x.1 y.1)
  where
    at : (x.0 ≡ y.0) ⊎ (x.0 ≢ y.0) → (x.1 ≡ y.1) ⊎ (x.1 ≢ y.1) → (x ≡ y) ⊎ (x ≢ y)
    at (inl e) (inl f) = inl (λ i. (e i, f i))
    at (inl e) (inr n) = inr (λ (p : x ≡ y). n (ap (λ (z : A × B). z.1) p))
    at (inr n) d = inr (λ (p : x ≡ y). n (ap (λ (z : A × B). z.0) p))

through : {A B : Type 0} (f : A → B) (g : B → A) → ((x : A) → g (f x) ≡ x) → Decides B → Decides A
through {A} {B} f g back db x y = at (db (f x) (f y))
  where
    at : (f x ≡ f y) ⊎ (f x ≢ f y) → (x ≡ y) ⊎ (x ≢ y)
    at (inl e) = inl (sym (back x) ∙ (ap g e ∙ back y))
    at (inr n) = inr (λ (p : x ≡ y). n (ap f p))

tables : Decides TableId
tables =
    through {A = TableId} {B = (ℕ × ℕ) × ((ℕ × ℕ) × ((ℕ × ℕ) × List ℕ))} (λ t. ((t.words, t.slots), ((t.views_name, t.atom), ((t.block, t.offset), t.slot_names))))
    (λ p. record { words = p.0.0; slots = p.0.1; views_name = p.1.0.0; atom = p.1.0.1; block = p.1.1.0.0; offset = p.1.1.0.1; slot_names = p.1.1.1 })
    (λ t. refl) (pairs (pairs cases_eq cases_eq) (pairs (pairs cases_eq cases_eq) (pairs (pairs cases_eq cases_eq) lists)))

rooms : Decides RoomAt
rooms =
    through {A = RoomAt} {B = (TableId × ℕ) × (ℕ × ℕ)} (λ r. ((r.table, r.rooms), (r.room, r.number)))
    (λ p. record { table = p.0.0; rooms = p.0.1; room = p.1.0; number = p.1.1 })
    (λ r. refl) (pairs (pairs tables cases_eq) (pairs cases_eq cases_eq))

one_room_or : {T : Type 0} (a b : SeatValue T) → IsOneRoom a b ⊎ (IsOneRoom a b → ⊥)
one_room_or {T} a b = at (rooms a.words.table b.words.table) (lists (names_of a.sights) (names_of b.sights))
  where
    at : (a.words.table ≡ b.words.table) ⊎ (a.words.table ≢ b.words.table) → (names_of a.sights ≡ names_of b.sights) ⊎ (names_of a.sights ≢ names_of b.sights)
        → IsOneRoom a b ⊎ (IsOneRoom a b → ⊥)
    at (inl e) (inl f) = inl (record { table = e; cells = f })
    at (inl e) (inr n) = inr (λ (one : IsOneRoom a b). n one.cells)
    at (inr n) d = inr (λ (one : IsOneRoom a b). n one.table)

module _ {T : Type 0} (a b a' b' : Numbered T) (met : MetIn a b a' b') where
  pub first_of_run : IsOfRun a.seat.words → IsOfRun a'.seat.words
  first_of_run h = elim (one_room_or a.seat b.seat) [
    | inl one ↦ (met_of_run a.seat.words b.seat.words a'.seat.words b'.seat.words (met.met one)).0 h
    | inr apart ↦ subst (λ (s : SeatValue T). IsOfRun s.words) (sym (met.apart apart).0) h
  ]

  pub second_of_run : IsOfRun b.seat.words → IsOfRun b'.seat.words
  second_of_run h = elim (one_room_or a.seat b.seat) [
    | inl one ↦ (met_of_run a.seat.words b.seat.words a'.seat.words b'.seat.words (met.met one)).1 h
    | inr apart ↦ subst (λ (s : SeatValue T). IsOfRun s.words) (sym (met.apart apart).1) h
  ]
