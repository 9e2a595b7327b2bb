-- Equations of registers and their own slots, in order.
use Rattle.std.proofs.Common.{◌≡◌, ℕ, zero, suc, ◌<◌, ◌^◌, List, [], ◌∷◌, length, get_or, refl, sym, ap, ◌∙◌, subst, arith, inl}
use Rattle.std.specs.Prelude.{map, Contains}
use Rattle.std.proofs.lemmas.List.{length-map, get_or-map}
use Rattle.std.proofs.lemmas.List.Elements.{All-map, Contains-get_or}
use Rattle.rtl_language.specs.declared.instruction.Instruction.{Instruction}
use Rattle.alloc_check_rules.specs.declared.equation.Equation.{Equation}
use Rattle.alloc_check_rules.specs.Rules.{EquationFits, equations_at, Rise, IsInOrder}
use Rattle.alloc_check_live.specs.Lists.{registers_at, RisesFrom, AreLive}
use Rattle.alloc_check_live.proofs.Risings.{rises_few}
use Rattle.alloc_check.specs.Slots.{own}
use Rattle.alloc_check.specs.Baseline.{IsLiveList}

pub own_at : (lists : List (List ℕ)) (n : ℕ) → equations_at (map (map own) lists) n ≡ map own (registers_at lists n)
own_at [] n = refl
own_at (rs ∷ lists) zero = refl
own_at (rs ∷ lists) (suc n) = own_at lists n

pub own_has : (rs : List ℕ) (r : ℕ) → Contains rs r → Contains (map own rs) (own r)
own_has rs r h = (h.0, omega (arith, h.1, length-map rs own), get_or-map own rs h.0 r (own r) h.1 ∙ ap own h.2)

-- an equation among them is of a register and its own slot
own_is : (rs : List ℕ) (e : Equation) → Contains (map own rs) e → (e ≡ own e.register) × Contains rs e.register
own_is rs e h =
    let below : h.0 < length rs = omega (arith, h.1, length-map rs own) in
    let is : own (get_or rs h.0 0) ≡ e = sym (get_or-map own rs h.0 0 e below) ∙ h.2 in
    let register : get_or rs h.0 0 ≡ e.register = ap (λ (q : Equation). q.register) is in
    (sym is ∙ ap own register, subst (Contains rs) register (Contains-get_or rs h.0 0 below))

own_rises : (low : ℕ) (rs : List ℕ) → RisesFrom low rs → Rise (map own rs)
own_rises low [] rises = tt
own_rises low (r ∷ []) rises = tt
own_rises low (r ∷ (q ∷ rs)) rises = (inl (omega (arith, rises.1.0)), own_rises (suc r) (q ∷ rs) rises.1)

pub own_in_order : (count : ℕ) (rs : List ℕ) → count < 2 ^ 16 → ((p : ℕ) → Contains rs p → p < count) → RisesFrom 0 rs → IsInOrder count count (map own rs)
own_in_order count rs few fit rises = record {
  few = omega (arith, few, length-map rs own, rises_few 0 count rs rises (omega arith) fit);
  each = All-map (EquationFits count count) own rs (λ k d below. let fits = fit (get_or rs k d) (Contains-get_or rs k d below) in (fits, fits));
  rising = own_rises 0 rs rises;
}

-- the list of live registers at a node, with their slots
pub own_live : (nodes : List Instruction) (lists : List (List ℕ)) → AreLive nodes lists → (n : ℕ) → IsLiveList nodes n (map own (registers_at lists n))
own_live nodes lists live n = record {
  rising = own_rises 0 (registers_at lists n) (live.rising n);
  exactly = λ e. (
    λ h. let is = own_is (registers_at lists n) e h in (is.0, (live.exactly n e.register).0 is.1),
    λ h. subst (Contains (map own (registers_at lists n))) (sym h.0) (own_has (registers_at lists n) e.register ((live.exactly n e.register).1 h.1)),
  );
}
