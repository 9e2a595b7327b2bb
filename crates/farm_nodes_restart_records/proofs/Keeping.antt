-- The kept parts of rooms and what the seats keep, function by function.
use Rattle.std.proofs.Common.{◌≡◌, ◌≢◌, ℕ, ◌+◌, ◌*◌, ◌<◌, ◌≤◌, ◌↔◌, List, length, map, get_or, Some, refl, sym, ap, ◌∙◌, subst, arith, inl, inr}
use Rattle.std.specs.Prelude.{slice_get}
use Rattle.std.proofs.lemmas.Bool.{cases_eq}
use Rattle.std.proofs.lemmas.Option.{slice_get_read, slice_get_within}
use Rattle.paxos_core_world.specs.KeptPart.{KeptPart}
use Rattle.farm_nodes_turn_passes.specs.Fours.{Four}
use Rattle.farm_nodes_restart_records.specs.Found.{AreKept, AreKeptAt, IsKeptAt}
use Rattle.farm_nodes_restart_seat.proofs.Places.{seen_at, some_same}

-- of one part
pub part_at : (parts : List KeptPart) (place : ℕ) (x kept : KeptPart) (told : Type 0) → x ≡ get_or parts place x → place < length parts → told ↔ (x ≡ kept) → told ↔ (slice_get parts place ≡ Some kept)
part_at parts place x kept told is within iff = (
  λ yes. there ∙ ap (λ (k : KeptPart). Some k) (iff.0 yes),
  λ at. iff.1 (some_same (slice_get parts place) x kept there at),
)
  where
    there : slice_get parts place ≡ Some x
    there = slice_get_read parts (length parts) place x refl within is

module _ {X1 X2 X3 X4 : Type 0} (parts : List KeptPart) (seats : List (Four X1 X2 X3 X4)) where
  -- so it is of the functions below n
  abbrev pub AreKeptTo : ℕ → Type 0
  AreKeptTo n = (f : ℕ) → f < n → IsKeptAt parts seats f

  pub kept_to_none : (told : Type 0) → told → told ↔ AreKeptTo 0
  kept_to_none told holds = (λ t f below. absurd (omega (arith, below)), λ kept. holds)

  pub kept_to_all : (n : ℕ) (told : Type 0) → length seats ≤ n → told ↔ AreKeptTo n → told ↔ AreKept parts seats
  kept_to_all n told most iff = (
    λ yes f s there. iff.0 yes f (omega (arith, most, slice_get_within seats f s there)) s there,
    λ kept. iff.1 (λ f below. kept f),
  )

  kept_more : (n : ℕ) → AreKeptTo n → IsKeptAt parts seats n → AreKeptTo (n + 1)
  kept_more n kept own f below =
      elim (cases_eq f n) [
        | inl same ↦ subst (λ (j : ℕ). IsKeptAt parts seats j) (sym same) own
        | inr other ↦ kept f (let ne : f ≢ n = other in omega (arith, below, ne))
      ]

  pub kept_to_more : (n : ℕ) (sofar here told : Type 0) → sofar ↔ AreKeptTo n → here ↔ IsKeptAt parts seats n → told ↔ (sofar × here) → told ↔ AreKeptTo (n + 1)
  kept_to_more n sofar here told before own both = (
    λ yes. let parts = both.0 yes in kept_more n (before.0 parts.0) (own.0 parts.1),
    λ kept. both.1 (before.1 (λ f below. kept f (omega (arith, below))), own.1 (kept n (omega arith))),
  )

-- of the seats of one function, as they are seen
pub kept_seen : {S X1 X2 X3 X4 : Type 0} (view : S → Four X1 X2 X3 X4) (parts : List KeptPart) (seats : List S) (i : ℕ) (s : S) (told : Type 0) → s ≡ get_or seats i s → i < length seats
    → told ↔ AreKeptAt parts (4 * i) (view s) → told ↔ IsKeptAt parts (map view seats) i
kept_seen {S} {X1} {X2} {X3} {X4} view parts seats i s told is within iff = (
  λ yes t there. subst (λ (u : Four X1 X2 X3 X4). AreKeptAt parts (4 * i) u) (some_same (slice_get (map view seats) i) (view s) t here there) (iff.0 yes),
  λ kept. iff.1 (kept (view s) here),
)
  where
    here : slice_get (map view seats) i ≡ Some (view s)
    here = seen_at view seats i s (slice_get_read seats (length seats) i s refl within is)

-- of the four of a function, from what is told of each
pub four_kept : {X1 X2 X3 X4 : Type 0} (parts : List KeptPart) (place : ℕ) (s : Four X1 X2 X3 X4) (a b c d front back told : Type 0)
    → a ↔ (slice_get parts place ≡ Some s.constants.words.node.kept) → b ↔ (slice_get parts (place + 1) ≡ Some s.expressions.words.node.kept)
    → c ↔ (slice_get parts (place + 2) ≡ Some s.allocation.words.node.kept) → d ↔ (slice_get parts (place + 3) ≡ Some s.order.words.node.kept)
    → front ↔ (a × b) → back ↔ (c × d) → told ↔ (front × back) → told ↔ AreKeptAt parts place s
four_kept parts place s a b c d front back told first second third fourth one two all = (
  λ yes.
      let halves = all.0 yes in
      let x = one.0 halves.0 in
      let y = two.0 halves.1 in
      record { constants = first.0 x.0; expressions = second.0 x.1; allocation = third.0 y.0; order = fourth.0 y.1 },
  λ kept. all.1 (one.1 (first.1 kept.constants, second.1 kept.expressions), two.1 (third.1 kept.allocation, fourth.1 kept.order)),
)
