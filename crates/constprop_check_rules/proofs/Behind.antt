-- Among facts in order, one is known behind an instruction where it is made, or known before and kept.
use Rattle.std.proofs.Common.{◌≡◌, ℕ, zero, suc, ◌<◌, ◌≤◌, List, [], ◌∷◌, length, get_or, Option, Some, None, Bool, true, false, cond, eqb, refl, sym, ap, ◌∙◌, subst, arith, inl, inr}
use Rattle.std.specs.Prelude.{◌↔◌, Contains, not}
use Rattle.std.proofs.lemmas.Bool.{eqb-true, ne_eqb, eq-eqb}
use Rattle.std.proofs.lemmas.List.{get_or_default}
use Rattle.rtl_passes_filled.specs.Known.{IsMadeOrKept}
use Rattle.rtl_passes_filled.specs.Ranked.{RiseFrom}
use Rattle.constprop_check_rules.specs.declared.fact.Fact.{Fact}
use Rattle.constprop_check_rules.specs.Known.{fact_at, names, known_fact, known_behind}
use Rattle.constprop_check_rules.specs.Rules.{rank}
use Rattle.constprop_check_rules.proofs.Holding.{fact_among}

-- none is below the least
above : (facts : List Fact) (lower k : ℕ) (d : Fact) → RiseFrom rank lower facts → k < length facts → lower ≤ rank (get_or facts k d)
above [] lower k d rise below = absurd (omega (arith, below))
above (f ∷ facts) lower zero d rise below = rise.0
above (f ∷ facts) lower (suc k) d rise below = omega (arith, above facts (suc f.register) k d rise.1 (omega (arith, below)), rise.0)

-- a fact that is there is the one that speaks of its register
at_own : (facts : List Fact) (lower : ℕ) (fact : Fact) → RiseFrom rank lower facts → (k : ℕ) → k < length facts → get_or facts k fact ≡ fact → fact_at facts fact.register ≡ Some fact.word
at_own [] lower fact rise k below is = absurd (omega (arith, below))
at_own (f ∷ facts) lower fact rise zero below is =
    subst (λ (x : Fact). fact_at (f ∷ facts) x.register ≡ Some x.word) is (ap (λ b. cond b (Some f.word) (fact_at facts f.register)) (eq-eqb f.register f.register refl))
at_own (f ∷ facts) lower fact rise (suc k) below is =
    let higher : f.register < fact.register = omega (arith, above facts (suc f.register) k fact rise.1 (omega (arith, below)), ap rank is) in
    let other : eqb f.register fact.register ≡ false = ne_eqb f.register fact.register (λ e. absurd (omega (arith, e, higher))) in
    ap (λ b. cond b (Some f.word) (fact_at facts fact.register)) other ∙ at_own facts (suc f.register) fact rise.1 k (omega (arith, below)) is

speaks : (facts : List Fact) (fact : Fact) → RiseFrom rank 0 facts → (fact_at facts fact.register ≡ Some fact.word) ↔ Contains facts fact
speaks facts fact rise = (
  λ said. fact_among (λ (f : Fact). Contains facts f) facts (λ k d below. (k, below, get_or_default facts k (get_or facts k d) d below)) fact.register fact.word said,
  λ among. at_own facts 0 fact rise among.0 among.1 among.2,
)

names_is : (written : Option ℕ) (r : ℕ) → names written r ≡ true → written ≡ Some r
names_is None r e = cc (e)
names_is (Some target) r e = ap (λ x. Some x) (eqb-true target r e)

-- what is made is of the register that was written, with the known word
pub made_is : (written value : Option ℕ) (fact : Fact) → known_fact written value ≡ Some fact → (written ≡ Some fact.register) × (value ≡ Some fact.word)
made_is None value fact e = cc (e)
made_is (Some r) None fact e = cc (e)
made_is (Some r) (Some w) fact e =
    let same : record { register = r; word = w } ≡ fact = cc in
    (ap (λ (x : Fact). Some x.register) same, ap (λ (x : Fact). Some x.word) same)

made_so : (written value : Option ℕ) (fact : Fact) → written ≡ Some fact.register → value ≡ Some fact.word → known_fact written value ≡ Some fact
made_so written value fact e e' = ap (λ o. known_fact o value) e ∙ ap (known_fact (Some fact.register)) e'

module _ (written value : Option ℕ) where
  -- whether another register was written
  abbrev keeps : Fact → Bool
  keeps fact = not (names written fact.register)

  pub known_splits : (before : List Fact) (fact : Fact) → RiseFrom rank 0 before → (known_behind written value before fact.register ≡ Some fact.word) ↔ IsMadeOrKept (known_fact written value) keeps before fact
  known_splits before fact rise = at (names written fact.register) refl
    where
      made : names written fact.register ≡ true → IsMadeOrKept (known_fact written value) keeps before fact → value ≡ Some fact.word
      made is (inl m) = (made_is written value fact m).1
      made is (inr kept) = absurd (let no : false ≡ true = sym (ap not is) ∙ kept.1 in cc)

      kept : names written fact.register ≡ false → IsMadeOrKept (known_fact written value) keeps before fact → fact_at before fact.register ≡ Some fact.word
      kept is (inl m) = absurd (let no : false ≡ true = sym is ∙ ap (λ o. names o fact.register) (made_is written value fact m).0 ∙ eq-eqb fact.register fact.register refl in cc)
      kept is (inr k) = (speaks before fact rise).1 k.0

      at : (b : Bool) → names written fact.register ≡ b → (known_behind written value before fact.register ≡ Some fact.word) ↔ IsMadeOrKept (known_fact written value) keeps before fact
      at true is = (
        λ e. inl (made_so written value fact (names_is written fact.register is) (sym (ap (λ b. cond b value (fact_at before fact.register)) is) ∙ e)),
        λ m. ap (λ b. cond b value (fact_at before fact.register)) is ∙ made is m,
      )
      at false is = (
        λ e. inr ((speaks before fact rise).0 (sym (ap (λ b. cond b value (fact_at before fact.register)) is) ∙ e), ap not is),
        λ m. ap (λ b. cond b value (fact_at before fact.register)) is ∙ kept is m,
      )
