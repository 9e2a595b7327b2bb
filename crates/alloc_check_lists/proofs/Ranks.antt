-- Equations come before each other exactly as by their ranks.
use Rattle.std.proofs.Common.{◌≡◌, ℕ, zero, suc, ◌<◌, ◌≤◌, List, [], ◌∷◌, length, get_or, inl, inr, arith}
use Rattle.std.specs.Prelude.{◌↔◌, All}
use Rattle.std.specs.List.{AllByRecursion}
use Rattle.std.proofs.lemmas.Bool.{cases_lt}
use Rattle.std.proofs.lemmas.List.Elements.{recursion_from_All}
use Rattle.locations.specs.declared.location.Location.{Location}
use Rattle.locations.specs.declared.location.Location.TheVariants.{InRegister, InSlot}
use Rattle.locations.specs.Fits.{LocationFits}
use Rattle.alloc_check_fill.specs.Equation.{Equation}
use Rattle.alloc_check_fill.specs.Rules.{EquationFits, IsLower, IsBefore, Rise, IsInOrder}
use Rattle.alloc_check_fill.specs.Ranks.{location_rank, rank}
use Rattle.alloc_check_lists.specs.Ranks.{RiseFrom}

module _ (registers slots : ℕ) (few : slots ≤ 65536) where
  small : (l : Location) → LocationFits slots l → location_rank l < 131072
  small (InRegister r) fits = omega (arith, fits)
  small (InSlot s) fits = omega (arith, fits, few)

  lower_locations : (l m : Location) → LocationFits slots l → LocationFits slots m → IsLower l m ↔ (location_rank l < location_rank m)
  lower_locations (InRegister r) (InRegister q) fits fits' = (λ lt. lt, λ lt. lt)
  lower_locations (InRegister r) (InSlot s) fits fits' = (λ u. omega (arith, fits), λ lt. tt)
  lower_locations (InSlot s) (InRegister r) fits fits' = (λ no. absurd no, λ lt. absurd (omega (arith, lt, fits')))
  lower_locations (InSlot s) (InSlot t) fits fits' = (λ lt. omega (arith, lt), λ lt. omega (arith, lt))

  before_ranks : (e f : Equation) → EquationFits registers slots e → EquationFits registers slots f → IsBefore e f ↔ (rank e < rank f)
  before_ranks e f fits fits' =
      let here = small e.location fits.1 in
      let there = small f.location fits'.1 in
      let lower = lower_locations e.location f.location fits.1 fits'.1 in (
        λ before. elim before [
          | inl less ↦ omega (arith, less, here, there)
          | inr level ↦ omega (arith, level.0, lower.0 level.1)
        ],
        λ less. elim (cases_lt e.register f.register) [
          | inl below ↦ inl below
          | inr past ↦
              let same : e.register ≡ f.register = omega (arith, past, less, here, there) in
              inr (same, lower.1 (omega (arith, same, less)))
        ],
      )

  -- the first is no lower than this
  abbrev BeginsAt : ℕ → List Equation → Type 0
  BeginsAt lower [] = Unit {0}
  BeginsAt lower (e ∷ es) = lower ≤ rank e

  rise_from : (es : List Equation) (lower : ℕ) → AllByRecursion (EquationFits registers slots) es → BeginsAt lower es → Rise es → RiseFrom lower es
  rise_from [] lower fits begins rise = tt
  rise_from (e ∷ []) lower fits begins rise = (begins, tt)
  rise_from (e ∷ (f ∷ es)) lower fits begins rise =
      let above : rank e < rank f = (before_ranks e f fits.0 fits.1.0).0 rise.0 in
      (begins, rise_from (f ∷ es) (suc (rank e)) fits.1 (omega (arith, above)) rise.1)

  from_rise : (es : List Equation) (lower : ℕ) → AllByRecursion (EquationFits registers slots) es → RiseFrom lower es → Rise es
  from_rise [] lower fits rise = tt
  from_rise (e ∷ []) lower fits rise = tt
  from_rise (e ∷ (f ∷ es)) lower fits rise =
      let above : rank e < rank f = omega (arith, rise.1.0) in
      ((before_ranks e f fits.0 fits.1.0).1 above, from_rise (f ∷ es) (suc (rank e)) fits.1 rise.1)

  -- in order as the rules say it, and by their ranks
  pub rise_ranks : (es : List Equation) → AllByRecursion (EquationFits registers slots) es → Rise es ↔ RiseFrom 0 es
  rise_ranks es fits = (λ rise. rise_from es 0 fits (begins es) rise, λ rise. from_rise es 0 fits rise)
    where
      begins : (es : List Equation) → BeginsAt 0 es
      begins [] = tt
      begins (e ∷ es) = omega arith

  -- lists in order rise by their ranks
  in_order_rises : (es : List Equation) → IsInOrder registers slots es → RiseFrom 0 es
  in_order_rises es in_order = (rise_ranks es (recursion_from_All (EquationFits registers slots) es in_order.each)).0 in_order.rising

  pub each_rises : (lists : List (List Equation)) → All (IsInOrder registers slots) lists → All (RiseFrom 0) lists
  each_rises lists in_order = λ k d below. in_order_rises (get_or lists k d) (in_order k d below)

-- ---- among equations in order

-- none is below the least
above : (es : List Equation) (lower k : ℕ) (d : Equation) → RiseFrom lower es → k < length es → lower ≤ rank (get_or es k d)
above [] lower k d rise below = absurd (omega (arith, below))
above (e ∷ es) lower zero d rise below = rise.0
above (e ∷ es) lower (suc k) d rise below = omega (arith, above es (suc (rank e)) k d rise.1 (omega (arith, below)), rise.0)

-- a later equation has a higher rank
pub higher : (es : List Equation) (lower i k : ℕ) (d : Equation) → RiseFrom lower es → i < k → k < length es → rank (get_or es i d) < rank (get_or es k d)
higher [] lower i k d rise less below = absurd (omega (arith, below))
higher (e ∷ es) lower i zero d rise less below = absurd (omega (arith, less))
higher (e ∷ es) lower zero (suc k) d rise less below = omega (arith, above es (suc (rank e)) k d rise.1 (omega (arith, below)))
higher (e ∷ es) lower (suc i) (suc k) d rise less below = higher es (suc (rank e)) i k d rise.1 (omega (arith, less)) (omega (arith, below))
