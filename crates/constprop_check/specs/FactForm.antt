-- The bytes of a fact: a register and a word.
use Rattle.std.proofs.Common.{ℕ, ◌<◌, ◌≤◌, ◌^◌, List, ◌++◌, refl, arith}
use Rattle.std.specs.Int.{w16, w32, to_be_bytes}
use Rattle.lang_base.specs.Reading.{Reading, number, below, both, made}
use Rattle.lang_base.proofs.Forms.{IsForm}
use Rattle.lang_base.proofs.Parts.{number16_form, number32_form, below_form, both_form, made_form}
use Rattle.constprop_check_rules.specs.declared.fact.Fact.{Fact}
use Rattle.constprop_check_rules.specs.Rules.{FactFits}

abbrev pub fact_text : Fact → List ℕ
fact_text fact = to_be_bytes w16 fact.register ++ to_be_bytes w32 fact.word

unfoldable pub fact : ℕ → Reading Fact
fact registers bytes = made (λ (p : ℕ × ℕ). record { register = p.0; word = p.1 }) (both (below registers (number w16)) (λ register. number w32)) bytes

pub fact_form : (registers : ℕ) → registers ≤ 2 ^ 16 → IsForm (fact registers) fact_text (FactFits registers)
unfolding fact
fact_form registers few =
    made_form (λ (p : ℕ × ℕ). record { register = p.0; word = p.1 })
    (both_form (below registers (number w16)) (to_be_bytes w16) (λ r. r < registers) (below_form registers number16_form (λ n lt. omega arith)) (λ register. number w32) (λ register. to_be_bytes w32) (λ register w. w < 2 ^ 32) (λ register fits. number32_form))
    fact_text (FactFits registers)
    (λ p fits. (refl, fits))
    (λ f fits. ((f.register, f.word), fits, refl))
