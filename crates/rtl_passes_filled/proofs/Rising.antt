-- What facts in order say of those among them.
use Rattle.std.proofs.Common.{◌≡◌, ℕ, zero, suc, ◌+◌, ◌<◌, ◌≤◌, List, [], ◌∷◌, length, get_or, drop, Option, Bool, true, false, refl, sym, ap, ◌∙◌, subst, arith, inl, inr}
use Rattle.std.specs.Prelude.{◌↔◌, All, Contains}
use Rattle.std.proofs.lemmas.Bool.{cases_eq}
use Rattle.std.proofs.lemmas.List.{get_or_default}
use Rattle.rtl_passes_filled.specs.Known.{IsMadeOrKept}
use Rattle.rtl_passes_marks.specs.Ranked.{RiseFrom}

module _ {A : Type 0} (rank : A → ℕ) where
  -- none is below the least
  pub above : (es : List A) (lower k : ℕ) (d : A) → RiseFrom rank lower es → k < length es → lower ≤ rank (get_or es k d)
  above [] lower k d rise below = absurd (omega (arith, below))
  above (e ∷ es) lower zero d rise below = rise.0
  above (e ∷ es) lower (suc k) d rise below = omega (arith, above es (suc (rank e)) k d rise.1 (omega (arith, below)), rise.0)

  -- one whose rank is the least can only be the first
  pub among_first : (es : List A) (e d : A) → 0 < length es → RiseFrom rank (rank e) es → (get_or es 0 d ≡ e) ↔ Contains es e
  among_first [] e d some rise = absurd (omega (arith, some))
  among_first (f ∷ es) e d some rise = (
    λ is. (0, some, is),
    λ among. at among.0 among.1 among.2,
  )
    where
      at : (k : ℕ) → k < length (f ∷ es) → get_or (f ∷ es) k e ≡ e → f ≡ e
      at zero below is = is
      at (suc k) below is = absurd (omega (arith, above es (suc (rank f)) k e rise.1 (omega (arith, below)), ap rank is, rise.0))

  -- one that is higher than the first is among the others
  pub among_rest : (es : List A) (e d : A) → 0 < length es → rank (get_or es 0 d) < rank e → Contains (drop 1 es) e ↔ Contains es e
  among_rest [] e d some lower = absurd (omega (arith, some))
  among_rest (f ∷ es) e d some lower = (
    λ among. (suc among.0, omega (arith, among.1), among.2),
    λ among. at among.0 among.1 among.2,
  )
    where
      at : (k : ℕ) → k < length (f ∷ es) → get_or (f ∷ es) k e ≡ e → Contains es e
      at zero below is = absurd (omega (arith, ap rank is, lower))
      at (suc k) below is = (k, omega (arith, below), is)

  rise_rest : (es : List A) (lower : ℕ) → RiseFrom rank lower es → RiseFrom rank 0 (drop 1 es)
  rise_rest [] lower rise = tt
  rise_rest (e ∷ []) lower rise = tt
  rise_rest (e ∷ (f ∷ es)) lower rise = (omega arith, rise.1.1)

  pub RiseFrom-lower : (es : List A) (a b : ℕ) → b ≤ a → RiseFrom rank a es → RiseFrom rank b es
  RiseFrom-lower [] a b le rise = tt
  RiseFrom-lower (e ∷ es) a b le rise = (omega (arith, rise.0), rise.1)

  -- none of the facts left is below the first
  pub rise_at : (least : ℕ) (left : List A) (d : A) → 0 < length left → least ≤ rank (get_or left 0 d) → RiseFrom rank 0 left → RiseFrom rank least left
  rise_at least [] d some le rise = tt
  rise_at least (e ∷ es) d some le rise = (le, rise.1)

  -- a later fact has a higher rank
  pub higher : (es : List A) (lower i k : ℕ) (d : A) → RiseFrom rank lower es → i < k → k < length es → rank (get_or es i d) < rank (get_or es k d)
  higher [] lower i k d rise less below = absurd (omega (arith, below))
  higher (e ∷ es) lower i zero d rise less below = absurd (omega (arith, less))
  higher (e ∷ es) lower zero (suc k) d rise less below = omega (arith, above es (suc (rank e)) k d rise.1 (omega (arith, below)))
  higher (e ∷ es) lower (suc i) (suc k) d rise less below = higher es (suc (rank e)) i k d rise.1 (omega (arith, less)) (omega (arith, below))

-- what is left of the facts, of which those from this rank on are all there
pub record IsLeftFrom {A : Type 0} (rank : A → ℕ) (least : ℕ) (all left : List A) : Type 0 where
  pub rising : RiseFrom rank 0 left
  pub same : (e : A) → least ≤ rank e → Contains left e ↔ Contains all e

pub left_rest : {A : Type 0} (rank : A → ℕ) (least : ℕ) (all left : List A) (d : A) → 0 < length left → rank (get_or left 0 d) < least → IsLeftFrom rank least all left → IsLeftFrom rank least all (drop 1 left)
left_rest rank least all left d some lower is = record {
  rising = rise_rest rank left 0 is.rising;
  same = λ e le.
      let here = among_rest rank left e d some (omega (arith, lower, le)) in
      let there = is.same e le in
      (λ among. there.0 (here.0 among), λ among. here.1 (there.1 among));
}

pub known_same : {A : Type 0} (made : Option A) (keeps : A → Bool) (before left : List A) (e : A) → Contains left e ↔ Contains before e → IsMadeOrKept made keeps left e → IsMadeOrKept made keeps before e
known_same made keeps before left e same (inl m) = inl m
known_same made keeps before left e same (inr kept) = inr (same.0 kept.0, kept.1)

-- what is left of the facts before, at a place of those behind
pub record IsLeftAt {A : Type 0} (rank : A → ℕ) (made : Option A) (keeps : A → Bool) (before after left : List A) (place : ℕ) : Type 0 where
  pub rising : RiseFrom rank 0 left
  pub same : (k : ℕ) (d : A) → place ≤ k → k < length after → Contains left (get_or after k d) ↔ Contains before (get_or after k d)
  pub known : (k : ℕ) (d : A) → k < place → k < length after → IsMadeOrKept made keeps before (get_or after k d)

module _ {A : Type 0} (rank : A → ℕ) (made : Option A) (keeps : A → Bool) (before after left left' : List A) (place : ℕ) (e : A) (is : e ≡ get_or after place e) (within : place < length after) (rise : RiseFrom rank 0 after) (at : IsLeftAt rank made keeps before after left place) (rising : RiseFrom rank (rank e) left') (same : (f : A) → rank e ≤ rank f → Contains left' f ↔ Contains left f) where
  still_same : (k : ℕ) (d : A) → place ≤ k → k < length after → rank e ≤ rank (get_or after k d) → Contains left' (get_or after k d) ↔ Contains before (get_or after k d)
  still_same k d le below higher =
      let here = same (get_or after k d) higher in
      let there = at.same k d le below in
      (λ among. there.0 (here.0 among), λ among. here.1 (there.1 among))

  -- the fact is among those left exactly where it is among all
  pub same_here : Contains left' e ↔ Contains before e
  same_here = subst (λ (f : A). Contains left' f ↔ Contains before f) (sym is) (still_same place e (omega arith) within (omega (arith, ap rank is)))

  -- one place on, where the fact is known
  pub left_on : IsMadeOrKept made keeps left' e → IsLeftAt rank made keeps before after left' (place + 1)
  left_on known = record {
    rising = RiseFrom-lower rank left' (rank e) 0 (omega arith) rising;
    same = λ k d le below.
        let to_e : get_or after place d ≡ e = get_or_default after place d e within ∙ sym is in
        let first : rank e < rank (get_or after k d) = subst (λ (f : A). rank f < rank (get_or after k d)) to_e (higher rank after 0 place k d rise (omega arith) below) in
        still_same k d (omega arith) below (omega (arith, first));
    known = λ k d less below.
        elim (cases_eq k place) [
          | inl here ↦
              let is_e : get_or after k d ≡ e = ap (λ j. get_or after j d) here ∙ get_or_default after place d e within ∙ sym is in
              subst (IsMadeOrKept made keeps before) (sym is_e) (known_same made keeps before left' e same_here known)
          | inr other ↦ at.known k d (omega arith) below
        ];
  }

  -- where it is not known, not all are
  pub unknown_here : ¬ IsMadeOrKept made keeps left' e → (false ≡ true) ↔ All (IsMadeOrKept made keeps before) after
  unknown_here wrong = (
    λ no. absurd (let impossible : false ≡ true = no in cc),
    λ all. absurd (wrong (known_same made keeps left' before e (same_here.1, same_here.0) (subst (IsMadeOrKept made keeps before) (sym is) (all place e within)))),
  )

-- what is left of both lists behind those that stand first in both and are kept: it tells what the whole lists tell
pub record IsBehind {A : Type 0} (rank : A → ℕ) (made : Option A) (keeps : A → Bool) (before after left rest : List A) : Type 0 where
  pub rising : RiseFrom rank 0 left
  pub others : RiseFrom rank 0 rest
  pub same : All (IsMadeOrKept made keeps before) after ↔ All (IsMadeOrKept made keeps left) rest

module _ {A : Type 0} (rank : A → ℕ) (made : Option A) (keeps : A → Bool) (e : A) (left rest : List A) (rise : RiseFrom rank 0 (e ∷ rest)) where
  -- a later fact stands behind the first
  later : (k : ℕ) (d : A) → k < length rest → Contains left (get_or rest k d) ↔ Contains (e ∷ left) (get_or rest k d)
  later k d below = among_rest rank (e ∷ left) (get_or rest k d) d (omega arith) (higher rank (e ∷ rest) 0 0 (suc k) d rise (omega arith) (omega (arith, below)))

  both_past : keeps e ≡ true → All (IsMadeOrKept made keeps (e ∷ left)) (e ∷ rest) ↔ All (IsMadeOrKept made keeps left) rest
  both_past kept = (
    λ all k d below. known_same made keeps left (e ∷ left) (get_or rest k d) ((later k d below).1, (later k d below).0) (all (suc k) d (omega (arith, below))),
    λ all k d below. at all k d below,
  )
    where
      at : All (IsMadeOrKept made keeps left) rest → (k : ℕ) (d : A) → k < length (e ∷ rest) → IsMadeOrKept made keeps (e ∷ left) (get_or (e ∷ rest) k d)
      at all zero d below = inr ((0, omega arith, refl), kept)
      at all (suc k) d below = known_same made keeps (e ∷ left) left (get_or rest k d) (later k d (omega (arith, below))) (all k d (omega (arith, below)))

-- one place on in both
pub behind_both : {A : Type 0} (rank : A → ℕ) (made : Option A) (keeps : A → Bool) (before after left rest : List A) (d f : A) → 0 < length left → 0 < length rest → get_or left 0 d ≡ get_or rest 0 f → keeps (get_or rest 0 f) ≡ true → IsBehind rank made keeps before after left rest → IsBehind rank made keeps before after (drop 1 left) (drop 1 rest)
behind_both rank made keeps before after [] rest d f some others same kept is = absurd (omega (arith, some))
behind_both rank made keeps before after (e ∷ left) [] d f some others same kept is = absurd (omega (arith, others))
behind_both {A} rank made keeps before after (e ∷ left) (g ∷ rest) d f some others same kept is =
    let first : e ∷ left ≡ g ∷ left = ap (λ x. x ∷ left) same in
    let here = subst (λ (es : List A). All (IsMadeOrKept made keeps before) after ↔ All (IsMadeOrKept made keeps es) (g ∷ rest)) first is.same in
    let past = both_past rank made keeps g left rest is.others kept in
    record {
      rising = rise_rest rank (e ∷ left) 0 is.rising;
      others = rise_rest rank (g ∷ rest) 0 is.others;
      same = (λ all. past.0 (here.0 all), λ all. here.1 (past.1 all));
    }
