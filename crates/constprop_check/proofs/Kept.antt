-- Which facts are kept.
use Rattle.std.proofs.Common.{◌≡◌, ℕ, List, [], ◌∷◌, true, false, eqb, refl, sym, ap}
use Rattle.std.specs.Prelude.{not}
use Rattle.std.specs.List.{filter}
use Rattle.std.proofs.lemmas.Bool.{eq-eqb, ne_eqb}
use Rattle.constprop_check_rules.specs.declared.fact.Fact.{Fact}

-- where nothing is written all are
pub all_kept : (facts : List Fact) → filter (λ fact. true) facts ≡ facts
all_kept [] = refl
all_kept (fact ∷ facts) = ap (λ kept. fact ∷ kept) (all_kept facts)

-- one is gone exactly where its register is this
pub is_gone : (register : ℕ) (fact : Fact) → fact.register ≡ register → not (eqb register fact.register) ≡ false
is_gone register fact is = ap not (eq-eqb register fact.register (sym is))

pub is_kept : (register : ℕ) (fact : Fact) → ¬ (fact.register ≡ register) → not (eqb register fact.register) ≡ true
is_kept register fact other = ap not (ne_eqb register fact.register (λ same. other (sym same)))
