-- Equations come before each other by their bytes exactly as by their ranks.
use Rattle.std.proofs.Common.{◌≡◌, ℕ, zero, suc, ◌+◌, ◌*◌, ◌<◌, ◌≤◌, ◌^◌, List, [], ◌∷◌, ◌++◌, length, refl, sym, ap, subst, ◌∙◌, inl, inr, arith}
use Rattle.std.specs.Prelude.{◌⊎◌, ◌↔◌}
use Rattle.std.specs.List.{AllByRecursion}
use Rattle.std.specs.declared.cmp.Ordering.TheVariants.{Less, Equal, Greater}
use Rattle.std.specs.Ordering.{nat_cmp, ordering_then}
use Rattle.std.specs.Cmp.Lexicographic.{slice_cmp}
use Rattle.std.proofs.lemmas.Cmp.{ranked, by_ranked, tied_itself, nat_list_cmp_total}
use Rattle.std.proofs.lemmas.List.{append-nil}
use Rattle.lang_base.proofs.Forms.{one_text}
use Rattle.rtl_acts.specs.declared.arguments.Arguments.TheVariants.{One, Two}
use Rattle.cse_check_rules.specs.declared.equation.RightSide.{RightSide}
use Rattle.cse_check_rules.specs.declared.equation.RightSide.TheVariants.{Operation, Cell, Copy}
use Rattle.cse_check_rules.specs.declared.equation.Equation.{Equation}
use Rattle.cse_check_rules.specs.Order.{equation_text, IsBefore, rank}
use Rattle.cse_check_rules.specs.Rules.{RightFits, EquationFits, Rise}
use Rattle.rtl_passes_filled.specs.Ranked.{RiseFrom}
use Rattle.machine.proofs.Operators.{code_small}
use Rattle.cse_check_rules.proofs.Forms.{equation_form}

abbrev Bytes : List ℕ → Type 0
Bytes bytes = AllByRecursion (λ b. b < 256) bytes

-- so many bytes behind a number, as a number: zeros stand behind a shorter text
abbrev spread : ℕ → ℕ → List ℕ → ℕ
spread zero before bytes = before
spread (suc k) before [] = spread k (before * 256) []
spread (suc k) before (b ∷ bytes) = spread k (before * 256 + b) bytes

-- what begins lower stays lower
spread_less : (k a b : ℕ) (xs ys : List ℕ) → a < b → Bytes xs → Bytes ys → spread k a xs < spread k b ys
spread_less zero a b xs ys less bytes bytes' = less
spread_less (suc k) a b [] [] less bytes bytes' = spread_less k (a * 256) (b * 256) [] [] (omega arith) tt tt
spread_less (suc k) a b [] (y ∷ ys) less bytes bytes' = spread_less k (a * 256) (b * 256 + y) [] ys (omega arith) tt bytes'.1
spread_less (suc k) a b (x ∷ xs) [] less bytes bytes' = spread_less k (a * 256 + x) (b * 256) xs [] (omega (arith, bytes.0)) bytes.1 tt
spread_less (suc k) a b (x ∷ xs) (y ∷ ys) less bytes bytes' = spread_less k (a * 256 + x) (b * 256 + y) xs ys (omega (arith, bytes.0)) bytes.1 bytes'.1

-- zeros are the least
spread_floor : (k a b : ℕ) (ys : List ℕ) → a ≤ b → spread k a [] ≤ spread k b ys
spread_floor zero a b ys le = le
spread_floor (suc k) a b [] le = spread_floor k (a * 256) (b * 256) [] (omega arith)
spread_floor (suc k) a b (y ∷ ys) le = spread_floor k (a * 256) (b * 256 + y) ys (omega arith)

-- where a text comes before another its number is lower, or it is a beginning of that
less_or_front : (k a : ℕ) (xs ys : List ℕ) → Bytes xs → Bytes ys → length xs ≤ k → slice_cmp nat_cmp xs ys ≡ Less → (spread k a xs < spread k a ys) ⊎ ((u : List ℕ) × (ys ≡ xs ++ u))
less_or_front k a [] [] bytes bytes' few e = absurd cc
less_or_front k a [] (y ∷ ys) bytes bytes' few e = inr (y ∷ ys, refl)
less_or_front k a (x ∷ xs) [] bytes bytes' few e = absurd cc
less_or_front zero a (x ∷ xs) (y ∷ ys) bytes bytes' few e = absurd (omega (arith, few))
less_or_front (suc k) a (x ∷ xs) (y ∷ ys) bytes bytes' few e =
    by_ranked (x < y) (x ≡ y) (y < x) (nat_cmp x y) (ranked x y (nat_cmp x y) refl)
    (λ is less. inl (spread_less k (a * 256 + x) (a * 256 + y) xs ys (omega arith) bytes.1 bytes'.1))
    (λ is same.
    let behind : slice_cmp nat_cmp xs ys ≡ Less = sym (ap (λ r. ordering_then r (slice_cmp nat_cmp xs ys)) is) ∙ e in
    elim (less_or_front k (a * 256 + x) xs ys bytes.1 bytes'.1 (omega (arith, few)) behind) [
      | inl lower ↦ inl (subst (λ n. spread k (a * 256 + x) xs < spread k (a * 256 + n) ys) same lower)
      | inr front ↦ inr (front.0, λ i. sym same i ∷ front.1 i)
    ])
    (λ is more. absurd (let other : Greater ≡ Less = sym (ap (λ r. ordering_then r (slice_cmp nat_cmp xs ys)) is) ∙ e in cc))

-- where a text's number is lower, it comes before
spread_tells : (k a : ℕ) (xs ys : List ℕ) → Bytes xs → Bytes ys → spread k a xs < spread k a ys → slice_cmp nat_cmp xs ys ≡ Less
spread_tells k a [] [] bytes bytes' lower = absurd (omega (arith, lower))
spread_tells k a [] (y ∷ ys) bytes bytes' lower = refl
spread_tells k a (x ∷ xs) [] bytes bytes' lower = absurd (omega (arith, lower, spread_floor k a a (x ∷ xs) (omega arith)))
spread_tells zero a (x ∷ xs) (y ∷ ys) bytes bytes' lower = absurd (omega (arith, lower))
spread_tells (suc k) a (x ∷ xs) (y ∷ ys) bytes bytes' lower =
    by_ranked (x < y) (x ≡ y) (y < x) (nat_cmp x y) (ranked x y (nat_cmp x y) refl)
    (λ is less. ap (λ r. ordering_then r (slice_cmp nat_cmp xs ys)) is)
    (λ is same.
    let behind : spread k (a * 256 + x) xs < spread k (a * 256 + x) ys = subst (λ n. spread k (a * 256 + x) xs < spread k (a * 256 + n) ys) (sym same) lower in
    ap (λ r. ordering_then r (slice_cmp nat_cmp xs ys)) is ∙ spread_tells k (a * 256 + x) xs ys bytes.1 bytes'.1 behind)
    (λ is more. absurd (omega (arith, lower, spread_less k (a * 256 + y) (a * 256 + x) ys xs (omega arith) bytes'.1 bytes.1)))

module _ (registers : ℕ) (few : registers ≤ 2 ^ 16) where
  -- the bytes of an equation, at most eight
  text_bytes : (e : Equation) → EquationFits registers e → Bytes (equation_text e)
  text_bytes e fits = at e.register e.right fits.0 fits.1
    where
      at : (r : ℕ) (side : RightSide) → r < registers → RightFits registers side → Bytes (equation_text (record { register = r; right = side }))
      at r (Operation op (One a)) there fits = (omega arith, (omega arith, (omega arith, (code_small op, (omega arith, (omega arith, tt))))))
      at r (Operation op (Two a b)) there fits = (omega arith, (omega arith, (omega arith, (code_small op, (omega arith, (omega arith, (omega arith, (omega arith, tt))))))))
      at r (Cell g a) there fits = (omega arith, (omega arith, (omega arith, (omega arith, (omega arith, (omega arith, (omega arith, tt)))))))
      at r (Copy a) there fits = (omega arith, (omega arith, (omega arith, (omega arith, (omega arith, tt)))))

  text_short : (e : Equation) → length (equation_text e) ≤ 8
  text_short e = at e.register e.right
    where
      at : (r : ℕ) (side : RightSide) → length (equation_text (record { register = r; right = side })) ≤ 8
      at r (Operation op (One a)) = omega arith
      at r (Operation op (Two a b)) = omega arith
      at r (Cell g a) = omega arith
      at r (Copy a) = omega arith

  -- the rank is the bytes' number
  rank_is : (e : Equation) → EquationFits registers e → rank e ≡ spread 8 0 (equation_text e)
  rank_is e fits = at e.register e.right fits.0 fits.1
    where
      at : (r : ℕ) (side : RightSide) → r < registers → RightFits registers side → rank (record { register = r; right = side }) ≡ spread 8 0 (equation_text (record { register = r; right = side }))
      at r (Operation op (One a)) there fits = omega (arith, fits)
      at r (Operation op (Two a b)) there fits = omega (arith, fits)
      at r (Cell g a) there fits = omega (arith, fits)
      at r (Copy a) there fits = omega (arith, fits)

  pub before_ranks : (e f : Equation) → EquationFits registers e → EquationFits registers f → IsBefore e f ↔ (rank e < rank f)
  before_ranks e f fits fits' = (
    λ before.
        elim (less_or_front 8 0 (equation_text e) (equation_text f) (text_bytes e fits) (text_bytes f fits') (text_short e) before) [
          | inl lower ↦ omega (arith, lower, rank_is e fits, rank_is f fits')
          | inr front ↦
              let one = one_text (equation_form registers few) e f front.0 [] fits fits' (sym front.1 ∙ sym (append-nil (equation_text f))) in
              let itself : slice_cmp nat_cmp (equation_text e) (equation_text e) ≡ Less = subst (λ g. slice_cmp nat_cmp (equation_text e) (equation_text g) ≡ Less) (sym one.0) before in
              let level : slice_cmp nat_cmp (equation_text e) (equation_text e) ≡ Equal = tied_itself nat_list_cmp_total (equation_text e) in
              absurd (let no : Equal ≡ Less = sym level ∙ itself in cc)
        ],
    λ lower. spread_tells 8 0 (equation_text e) (equation_text f) (text_bytes e fits) (text_bytes f fits') (subst (λ n. n < spread 8 0 (equation_text f)) (rank_is e fits) (subst (λ n. rank e < n) (rank_is f fits') lower)),
  )

  -- the first is no lower than this
  abbrev BeginsAt : ℕ → List Equation → Type 0
  BeginsAt lower [] = Unit {0}
  BeginsAt lower (e ∷ es) = lower ≤ rank e

  rise_from : (es : List Equation) (lower : ℕ) → AllByRecursion (EquationFits registers) es → BeginsAt lower es → Rise es → RiseFrom rank lower es
  rise_from [] lower fits begins rise = tt
  rise_from (e ∷ []) lower fits begins rise = (begins, tt)
  rise_from (e ∷ (f ∷ es)) lower fits begins rise =
      let above : rank e < rank f = (before_ranks e f fits.0 fits.1.0).0 rise.0 in
      (begins, rise_from (f ∷ es) (suc (rank e)) fits.1 (omega (arith, above)) rise.1)

  from_rise : (es : List Equation) (lower : ℕ) → AllByRecursion (EquationFits registers) es → RiseFrom rank lower es → Rise es
  from_rise [] lower fits rise = tt
  from_rise (e ∷ []) lower fits rise = tt
  from_rise (e ∷ (f ∷ es)) lower fits rise =
      let above : rank e < rank f = omega (arith, rise.1.0) in
      ((before_ranks e f fits.0 fits.1.0).1 above, from_rise (f ∷ es) (suc (rank e)) fits.1 rise.1)

  -- in order by their bytes, and by their ranks
  pub rise_ranks : (es : List Equation) → AllByRecursion (EquationFits registers) es → Rise es ↔ RiseFrom rank 0 es
  rise_ranks es fits = (λ rise. rise_from es 0 fits (begins es) rise, λ rise. from_rise es 0 fits rise)
    where
      begins : (es : List Equation) → BeginsAt 0 es
      begins [] = tt
      begins (e ∷ es) = omega arith
