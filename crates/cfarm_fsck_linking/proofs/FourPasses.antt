-- The steps of the four passes, one behind the other.
use Rattle.std.proofs.Common.{◌≡◌, ◌↔◌, ℕ, Bool, true, false, List, Option, Some, None, IsTrue, refl, sym, subst, ◌∙◌}
use Rattle.rtl_language.specs.Function as rtl
use Rattle.rtl_language.specs.contracts.language.RtlLanguage.TheImpl as rtl_language
use Rattle.ltl.specs.Function as ltl
use Rattle.ltl.specs.contracts.language.LtlLanguage.TheImpl as ltl_language
use Rattle.linear_language.specs.Function as linear
use Rattle.linear_language.specs.contracts.language.LinearLanguage.TheImpl as linear_language
use Rattle.constprop_check.specs.contracts.pass.ConstPropPass.TheImpl as constants
use Rattle.cse_check.specs.contracts.pass.CsePass.TheImpl as expressions
use Rattle.alloc_check.specs.contracts.pass.AllocPass.TheImpl as allocation
use Rattle.linearize_check.specs.contracts.pass.LinearizePass.TheImpl as order
use Rattle.cfarm_fsck_linking.specs.Chained.{AreChained, FourTexts}
use Rattle.cfarm_fsck_linking.specs.Steps.{IsAnswered, IsStep}

iff_no : {P : Type 0} → (P → ⊥) → IsTrue false ↔ P
iff_no denied = (λ told. absurd (cc told), λ p. absurd (denied p))

iff_yes : {P : Type 0} → P → IsTrue true ↔ P
iff_yes p = (λ told. p, λ held. refl)

abbrev ByConstants : Option rtl.FunctionData → Option (List ℕ) → Option (Option rtl.FunctionData) → Type 0
ByConstants = IsAnswered rtl_language.ghosts rtl_language.ghosts constants.ghosts

abbrev ByExpressions : Option rtl.FunctionData → Option (List ℕ) → Option (Option rtl.FunctionData) → Type 0
ByExpressions = IsAnswered rtl_language.ghosts rtl_language.ghosts expressions.ghosts

abbrev ByAllocation : Option rtl.FunctionData → Option (List ℕ) → Option (Option ltl.FunctionData) → Type 0
ByAllocation = IsAnswered rtl_language.ghosts ltl_language.ghosts allocation.ghosts

abbrev ByOrder : Option ltl.FunctionData → Option (List ℕ) → Option (Option linear.FunctionData) → Type 0
ByOrder = IsAnswered ltl_language.ghosts linear_language.ghosts order.ghosts

-- The function behind each text is lent to the step behind it, as `start`.
module _ (function : rtl.FunctionData) (texts : FourTexts) where
  pub no_first : ByConstants (Some function) texts.constants None → IsTrue false ↔ AreChained function texts
  no_first none = iff_no (λ (are : AreChained function texts). none are.second are.constants)

  module _ (second start : Option rtl.FunctionData) (first : ByConstants (Some function) texts.constants (Some second)) (same : start ≡ second) where
    is_second : (are : AreChained function texts) → are.second ≡ start
    is_second are = first.1 are.second are.constants ∙ sym same

    pub no_second : ByExpressions start texts.expressions None → IsTrue false ↔ AreChained function texts
    no_second none = iff_no (λ (are : AreChained function texts).
        none are.third (subst (λ s. IsStep rtl_language.ghosts rtl_language.ghosts expressions.ghosts s texts.expressions are.third) (is_second are) are.expressions))

    module _ (third start3 : Option rtl.FunctionData) (next : ByExpressions start texts.expressions (Some third)) (same3 : start3 ≡ third) where
      is_third : (are : AreChained function texts) → are.third ≡ start3
      is_third are =
          next.1 are.third (subst (λ s. IsStep rtl_language.ghosts rtl_language.ghosts expressions.ghosts s texts.expressions are.third) (is_second are) are.expressions)
          ∙ sym same3

      pub no_third : ByAllocation start3 texts.allocation None → IsTrue false ↔ AreChained function texts
      no_third none = iff_no (λ (are : AreChained function texts).
          none are.fourth (subst (λ s. IsStep rtl_language.ghosts ltl_language.ghosts allocation.ghosts s texts.allocation are.fourth) (is_third are) are.allocation))

      module _ (fourth start4 : Option ltl.FunctionData) (behind : ByAllocation start3 texts.allocation (Some fourth)) (same4 : start4 ≡ fourth) where
        is_fourth : (are : AreChained function texts) → are.fourth ≡ start4
        is_fourth are =
            behind.1 are.fourth (subst (λ s. IsStep rtl_language.ghosts ltl_language.ghosts allocation.ghosts s texts.allocation are.fourth) (is_third are) are.allocation)
            ∙ sym same4

        pub no_fourth : ByOrder start4 texts.order None → IsTrue false ↔ AreChained function texts
        no_fourth none = iff_no (λ (are : AreChained function texts).
            none are.end (subst (λ s. IsStep ltl_language.ghosts linear_language.ghosts order.ghosts s texts.order are.end) (is_fourth are) are.order))

        pub all_four : (end : Option linear.FunctionData) → ByOrder start4 texts.order (Some end) → IsTrue true ↔ AreChained function texts
        all_four end last = iff_yes (record {
          second = second;
          third = third;
          fourth = fourth;
          end = end;
          constants = first.0;
          expressions = subst (λ s. IsStep rtl_language.ghosts rtl_language.ghosts expressions.ghosts s texts.expressions third) same next.0;
          allocation = subst (λ s. IsStep rtl_language.ghosts ltl_language.ghosts allocation.ghosts s texts.allocation fourth) same3 behind.0;
          order = subst (λ s. IsStep ltl_language.ghosts linear_language.ghosts order.ghosts s texts.order end) same4 last.0;
        })
