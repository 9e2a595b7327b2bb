-- How the rights of a table are cut, and told.
use Rattle.std.proofs.Common.{◌≡◌, ℕ, zero, suc, ◌<◌, ◌⊎◌, Bool, true, false, if◌then◌else◌, List, [], ◌∷◌, map, length, get_or, refl, sym, ap, subst, inl, inr, arith}
use Rattle.atomic_table.specs.Table.{Splits, Joins}
use Rattle.rooms_words.specs.Deal.{dealing, dealing_rest, dealing_seat, informed, nobody, witness}
use Rattle.rooms_words.specs.Rule.{RoomRule}
use Rattle.rooms_words.specs.declared.view.Opening.{Opening}
use Rattle.rooms_words.specs.declared.view.View.{View}
use Rattle.rooms_words.proofs.Deal.{deals, gives_all, gives_none, makes_witness, takes_nothing, takes_witness}
use Rattle.rooms_table.specs.Deal.{all_informed, first_node, first_of, first_room, informed_by, nowhere, other_nodes, other_rooms, others_of, rest_of, seat_of, witnesses}
use Rattle.rooms_table.specs.Family.{rooms_in, view_in, FamilyRule}
use Rattle.rooms_table.specs.declared.view.Openings.{Openings}
use Rattle.rooms_table.specs.declared.view.Views.{Views}
use Rattle.rooms_table.proofs.Lifting.{joins, splits}
use Rattle.rooms_table.proofs.Tables.{at_tabulated, get_or-map, length-map, length-tabulated}

-- ---- node by node

-- a token gives the seat of the first node away, in each room in which it has rights for nodes from k on
module _ {S : Type 0} (o : Openings) (id : ℕ) (v : Views) (pos : 0 < rooms_in v) (k : ℕ)
    (dealt_so : (room : ℕ) → room < rooms_in v
    → ((view_in v room).live ≡ false) ⊎ ((view_in v room ≡ dealing (view_in v room).opening k) × (k < (view_in v room).opening.quorums.nodes))) where
  pub deals_nodes : Splits {S = S} (FamilyRule o) id v (other_nodes v) (first_node v)
  deals_nodes =
      splits {S = S} o id v (other_nodes v) (first_node v) pos (length-map rest_of v.rooms) (length-map seat_of v.rooms)
      (λ room lt p.
      subst (λ (x : View). Splits {S = S} (RoomRule p) id (view_in v room) x (view_in (first_node v) room)) (sym (get_or-map rest_of v.rooms room nobody nobody lt))
      (subst (λ (x : View). Splits {S = S} (RoomRule p) id (view_in v room) (rest_of (view_in v room)) x) (sym (get_or-map seat_of v.rooms room nobody nobody lt))
      (elim (dealt_so room lt) [
        | inl quiet ↦ kept_whole p (view_in v room) (view_in v room).live quiet
        | inr h ↦ subst (λ (x : View). Splits {S = S} (RoomRule p) id x (rest_of x) (seat_of x)) (sym h.0) (deals {S = S} p id (view_in v room).opening k h.1)
      ])))
    where
      kept_whole : (p : Opening) (x : View) (t : Bool) → t ≡ false → Splits {S = S} (RoomRule p) id x (if t then dealing_rest x else x) (if t then dealing_seat x else nobody)
      kept_whole p x true e = absurd (cc)
      kept_whole p x false e = gives_none {S = S} p id x

pub rooms_first : (v : Views) → rooms_in (first_node v) ≡ rooms_in v
rooms_first v = length-map seat_of v.rooms

pub rooms_others : (v : Views) → rooms_in (other_nodes v) ≡ rooms_in v
rooms_others v = length-map rest_of v.rooms

-- ---- room by room

-- in each room all rights go, or none
parted : (vs : List View) (r : ℕ) → r < length vs
    → ((get_or (others_of vs) r nobody ≡ nobody) × (get_or (first_of vs) r nobody ≡ get_or vs r nobody))
    ⊎ ((get_or (others_of vs) r nobody ≡ get_or vs r nobody) × (get_or (first_of vs) r nobody ≡ nobody))
parted [] r lt = absurd (omega arith)
parted (v ∷ vs) zero lt = at v.live
  where
    at : (t : Bool)
        → ((get_or (if t then nobody ∷ vs else v ∷ others_of vs) 0 nobody ≡ nobody) × (get_or (if t then v ∷ map (λ _. nobody) vs else nobody ∷ first_of vs) 0 nobody ≡ v))
        ⊎ ((get_or (if t then nobody ∷ vs else v ∷ others_of vs) 0 nobody ≡ v) × (get_or (if t then v ∷ map (λ _. nobody) vs else nobody ∷ first_of vs) 0 nobody ≡ nobody))
    at true = inl (refl, refl)
    at false = inr (refl, refl)
parted (v ∷ vs) (suc r) lt = at v.live (parted vs r (omega arith))
  where
    Parted : List View → List View → Type 0
    Parted others first =
        ((get_or others r nobody ≡ nobody) × (get_or first r nobody ≡ get_or vs r nobody)) ⊎ ((get_or others r nobody ≡ get_or vs r nobody) × (get_or first r nobody ≡ nobody))

    at : (t : Bool) → ((get_or (others_of vs) r nobody ≡ nobody) × (get_or (first_of vs) r nobody ≡ get_or vs r nobody)) ⊎ ((get_or (others_of vs) r nobody ≡ get_or vs r nobody) × (get_or (first_of vs) r nobody ≡ nobody))
        → ((get_or (if t then nobody ∷ vs else v ∷ others_of vs) (suc r) nobody ≡ nobody) × (get_or (if t then v ∷ map (λ _. nobody) vs else nobody ∷ first_of vs) (suc r) nobody ≡ get_or vs r nobody))
        ⊎ ((get_or (if t then nobody ∷ vs else v ∷ others_of vs) (suc r) nobody ≡ get_or vs r nobody) × (get_or (if t then v ∷ map (λ _. nobody) vs else nobody ∷ first_of vs) (suc r) nobody ≡ nobody))
    at true h = inr (refl, get_or-map (λ _. nobody) vs r nobody nobody (omega arith))
    at false h = h

length_first : (vs : List View) → length (first_of vs) ≡ length vs
length_first [] = refl
length_first (v ∷ vs) = at v.live (length_first vs)
  where
    at : (t : Bool) → length (first_of vs) ≡ length vs → length (if t then v ∷ map (λ _. nobody) vs else nobody ∷ first_of vs) ≡ suc (length vs)
    at true h = ap suc (length-map (λ _. nobody) vs)
    at false h = ap suc h

length_others : (vs : List View) → length (others_of vs) ≡ length vs
length_others [] = refl
length_others (v ∷ vs) = at v.live (length_others vs)
  where
    at : (t : Bool) → length (others_of vs) ≡ length vs → length (if t then nobody ∷ vs else v ∷ others_of vs) ≡ suc (length vs)
    at true h = refl
    at false h = ap suc h

-- a token gives the rights in one room away
pub deals_room : {S : Type 0} (o : Openings) (id : ℕ) (v : Views) → 0 < rooms_in v → Splits {S = S} (FamilyRule o) id v (other_rooms v) (first_room v)
deals_room {S} o id v pos =
    splits {S = S} o id v (other_rooms v) (first_room v) pos (length_others v.rooms) (length_first v.rooms)
    (λ room lt p.
    elim (parted v.rooms room lt) [
      | inl h ↦
          subst (λ (x : View). Splits {S = S} (RoomRule p) id (view_in v room) x (view_in (first_room v) room)) (sym h.0)
          (subst (λ (x : View). Splits {S = S} (RoomRule p) id (view_in v room) nobody x) (sym h.1) (gives_all {S = S} p id (view_in v room)))
      | inr h ↦
          subst (λ (x : View). Splits {S = S} (RoomRule p) id (view_in v room) x (view_in (first_room v) room)) (sym h.0)
          (subst (λ (x : View). Splits {S = S} (RoomRule p) id (view_in v room) (view_in v room) x) (sym h.1) (gives_none {S = S} p id (view_in v room)))
    ])

-- ---- telling

pub witness_in : (v : Views) (room : ℕ) → room < rooms_in v → view_in (witnesses v) room ≡ witness (view_in v room)
witness_in v room lt = get_or-map witness v.rooms room nobody nobody lt

pub tells : {S : Type 0} (o : Openings) (id : ℕ) (v : Views) → 0 < rooms_in v → Splits {S = S} (FamilyRule o) id v v (witnesses v)
tells {S} o id v pos =
    splits {S = S} o id v v (witnesses v) pos refl (length-map witness v.rooms)
    (λ room lt p. subst (λ (x : View). Splits {S = S} (RoomRule p) id (view_in v room) (view_in v room) x) (sym (witness_in v room lt)) (makes_witness {S = S} p id (view_in v room)))

pub rooms_informed : (v w : Views) → rooms_in (all_informed v w) ≡ rooms_in v
rooms_informed v w = length-tabulated (rooms_in v) (λ room. informed_by (view_in v room) (view_in w room))

pub informed_in : (v w : Views) (room : ℕ) → room < rooms_in v → view_in (all_informed v w) room ≡ informed_by (view_in v room) (view_in w room)
informed_in v w room lt = at_tabulated (rooms_in v) (λ room. informed_by (view_in v room) (view_in w room)) room nobody lt

pub hears : {S : Type 0} (o : Openings) (id : ℕ) (v : Views) (other : ℕ) (w : Views) → 0 < rooms_in v → Joins {S = S} (FamilyRule o) id v other w (all_informed v w) nowhere
hears {S} o id v other w pos =
    joins {S = S} o id v other w (all_informed v w) pos (rooms_informed v w)
    (λ room lt p. subst (λ (x : View). Joins {S = S} (RoomRule p) id (view_in v room) other (view_in w room) x nobody) (sym (informed_in v w room lt)) (by p (view_in v room) (view_in w room) (view_in w room).live refl))
  where
    by : (p : Opening) (x y : View) (t : Bool) → y.live ≡ t → Joins {S = S} (RoomRule p) id x other y (if t then informed x y else x) nobody
    by p x y true e = takes_witness {S = S} p id x other y e
    by p x y false e = takes_nothing {S = S} p id x other y
