-- Functions of few registers: passes 1 and 2 keep the number, whatever is offered to them.
use Rattle.std.proofs.Common.{◌≡◌, ℕ, ◌<◌, ◌≤◌, List, length, get_or, sym, subst, ◌∙◌}
use Rattle.std.specs.Prelude.{All}
use Rattle.std.proofs.lemmas.List.Elements.{All-get_or}
use Rattle.lang_base.specs.declared.program.Named.{Named}
use Rattle.rtl_language.specs.Function.{FunctionData}
use Rattle.rtl_passes_marks.specs.declared.row.NodeRow.{NodeRow}
use Rattle.constprop_check_rules.specs.declared.fact.Fact.{Fact}
use Rattle.constprop_check_rules.specs.Rules.{IsPropagated}
use Rattle.cse_check_rules.specs.declared.equation.Equation.{Equation}
use Rattle.cse_check_rules.specs.Rules.{IsEliminated}
use Rattle.alloc_check_rules.specs.Rules.{IsTooLarge, baseline_limit}

pub large_from_the_start : (f a b : FunctionData) (facts : List (NodeRow Fact)) (equations : List (NodeRow Equation)) → IsPropagated f a facts → IsEliminated a b equations → IsTooLarge b → IsTooLarge f
large_from_the_start f a b facts equations first second large =
    subst (λ n. baseline_limit < n) (second.shape.same.registers ∙ first.shape.same.registers) large

-- one of functions that all have few registers has few
pub few_at : (functions : List (Named FunctionData)) (n : ℕ) (f : Named FunctionData) → n < length functions → f ≡ get_or functions n f
    → All (λ g. g.function.registers ≤ 2048) functions → f.function.registers ≤ 2048
few_at functions n f below e all =
    subst (λ (g : Named FunctionData). g.function.registers ≤ 2048) (sym e) (All-get_or (λ (g : Named FunctionData). g.function.registers ≤ 2048) functions n f below all)
