-- Why a pass does not accept an output: its form, or the lowest node that breaks a rule.
use Rattle.std.specs.Prelude.{List, ℕ, Option, Some, Result, IfOk, MatchOption}
use Rattle.lang_base.specs.declared.fault.Fault.{Fault}
use Rattle.rtl_language.specs.Function as rtl
use Rattle.ltl.specs.Function as ltl
use Rattle.linear_language.specs.Function as linear
use Rattle.rtl_passes_marks.specs.declared.row.NodeRow.{NodeRow}
use Rattle.rtl_passes_filled.specs.Accepted.{TellsWhy}
use Rattle.constprop_check_rules.specs.declared.fact.Fact.{Fact}
use Rattle.constprop_check_rules.specs.Rules.{propagation}
use Rattle.cse_check_rules.specs.declared.equation.Equation as cse
use Rattle.cse_check_rules.specs.Rules.{elimination}
use Rattle.bundle_reading.specs.AllocCheckRulesEquation as alloc
use Rattle.bundle_reading.specs.Right as allocation
use Rattle.linearize_check.specs.Faults as order

-- what is told is what is wrong with the three, and nothing is told of what is accepted alone
abbrev pub IsReason : {I O C E : Type 0} → (I → O → C → Type 0) → (I → O → C → Fault → Type 0) → I → O → C → Result (Option Fault) E → Type 0
IsReason accepts tells input output certificate result =
    IfOk result (λ told. MatchOption told (accepts input output certificate) (tells input output certificate))

abbrev pub WhyFirst : rtl.FunctionData → rtl.FunctionData → List (NodeRow Fact) → Fault → Type 0
WhyFirst input output rows fault = TellsWhy propagation input output rows (Some fault)

abbrev pub WhySecond : rtl.FunctionData → rtl.FunctionData → List (NodeRow cse.Equation) → Fault → Type 0
WhySecond input output rows fault = TellsWhy elimination input output rows (Some fault)

abbrev pub WhyThird : rtl.FunctionData → ltl.FunctionData → List (NodeRow alloc.Equation) → Fault → Type 0
WhyThird input output rows fault = allocation.TellsWhy input output rows (Some fault)

abbrev pub WhyFourth : ltl.FunctionData → linear.FunctionData → List ℕ → Fault → Type 0
WhyFourth input output nodes fault = order.TellsFault input output nodes (Some fault)
