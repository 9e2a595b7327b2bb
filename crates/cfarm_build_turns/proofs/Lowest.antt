-- The lowest node that failed, looked for in order.
use Rattle.std.proofs.Common.{◌≡◌, ℕ, zero, suc, ◌<◌, ◌≤◌, List, [], ◌∷◌, map, length, get_or, drop, Option, Some, None, refl, sym, ap, ◌∙◌, arith}
use Rattle.farm_nodes_turn_offer.specs.declared.halt.Fault.{Fault}
use Rattle.std.specs.List.{AllByRecursion}
use Rattle.farm_nodes_turn_node.specs.declared.halted.Halted.{Halted}
use Rattle.farm_nodes_turn_node.specs.Held.{fault_in}
use Rattle.cfarm_build_turns.specs.Nodes.{lowest_failed}

module _ {N : Type 0} (fault : N → Option Fault) where
  pub none_here : (nodes : List N) (n : ℕ) (x : N) (k : ℕ) → n < length nodes → x ≡ get_or nodes n x → fault x ≡ None
      → lowest_failed k (map fault (drop n nodes)) ≡ lowest_failed (suc k) (map fault (drop (suc n) nodes))
  none_here [] n x k below is none = absurd (omega (arith, below))
  none_here (y ∷ nodes) zero x k below is none = ap (λ o. lowest_failed k (o ∷ map fault nodes)) (ap fault (sym is) ∙ none)
  none_here (y ∷ nodes) (suc n) x k below is none = none_here nodes n x k (omega (arith, below)) is none

  pub one_here : (nodes : List N) (n : ℕ) (x : N) (k : ℕ) (f : Fault) → n < length nodes → x ≡ get_or nodes n x → fault x ≡ Some f
      → lowest_failed k (map fault (drop n nodes)) ≡ Some (k, f)
  one_here [] n x k f below is some = absurd (omega (arith, below))
  one_here (y ∷ nodes) zero x k f below is some = ap (λ o. lowest_failed k (o ∷ map fault nodes)) (ap fault (sym is) ∙ some)
  one_here (y ∷ nodes) (suc n) x k f below is some = one_here nodes n x k f (omega (arith, below)) is some

  pub none_left : (nodes : List N) (n k : ℕ) → length nodes ≤ n → lowest_failed k (map fault (drop n nodes)) ≡ None
  none_left [] zero k end = refl
  none_left [] (suc n) k end = refl
  none_left (y ∷ nodes) zero k end = absurd (omega (arith, end))
  none_left (y ∷ nodes) (suc n) k end = none_left nodes n k (omega (arith, end))

-- where none failed, none is stopped
none_first : (k : ℕ) (o : Option Fault) (faults : List (Option Fault)) → lowest_failed k (o ∷ faults) ≡ None → (o ≡ None) × (lowest_failed (suc k) faults ≡ None)
none_first k None faults none = (refl, none)
none_first k (Some fault) faults none = absurd (cc none)

not_stopped : (halted : Option Halted) → fault_in halted ≡ None → halted ≡ None
not_stopped None none = refl
not_stopped (Some halted) none = absurd (cc none)

pub all_going : {N : Type 0} (halted : N → Option Halted) (nodes : List N) (k : ℕ) → lowest_failed k (map (λ n. fault_in (halted n)) nodes) ≡ None
    → AllByRecursion (λ n. halted n ≡ None) nodes
all_going halted [] k none = tt
all_going halted (n ∷ nodes) k none =
    let both = none_first k (fault_in (halted n)) (map (λ n. fault_in (halted n)) nodes) none in
    (not_stopped (halted n) both.0, all_going halted nodes (suc k) both.1)
