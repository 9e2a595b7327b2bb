-- The text of a written offer: a title, the input, the output, and the certificate.
use Rattle.std.specs.Prelude.{ℕ, List, ◌++◌, codes}
use Rattle.rtl_language.specs.Function as rtl
use Rattle.ltl.specs.Function as ltl
use Rattle.linear_language.specs.Function as linear
use Rattle.rtl_passes_marks.specs.declared.row.NodeRow.{NodeRow}
use Rattle.constprop_check_rules.specs.declared.fact.Fact.{Fact}
use Rattle.cse_check_rules.specs.declared.equation.Equation as cse
use Rattle.alloc_check_rules.specs.declared.equation.Equation as alloc
use Rattle.offers.specs.declared.parts.Parts.{Parts}
use Rattle.text_rtl.specs.Shown as rtl_text
use Rattle.text_ltl.specs.Shown as ltl_text
use Rattle.text_linear.specs.Shown as linear_text
use Rattle.text_offers.specs.Entries.{fact_words, equation_words, place_words}
use Rattle.text_offers.specs.Lines.{rows_lines, order_line}

-- a title, the two functions, and the lines of the certificate
abbrev pub shown_offer : {I O C : Type 0} → List ℕ → (I → List ℕ) → (O → List ℕ) → (C → List ℕ) → Parts I O C → List ℕ
shown_offer title input output certificate parts = title ++ (input parts.input ++ (output parts.output ++ certificate parts.certificate))

-- pass 1
abbrev pub Constants : Type 0
Constants = Parts rtl.FunctionData rtl.FunctionData (List (NodeRow Fact))

abbrev pub shown_constants : Constants → List ℕ
shown_constants parts = shown_offer (codes "offer pass 1\n") (rtl_text.shown_under (codes "input")) (rtl_text.shown_under (codes "output")) (rows_lines fact_words) parts

-- pass 2
abbrev pub Expressions : Type 0
Expressions = Parts rtl.FunctionData rtl.FunctionData (List (NodeRow cse.Equation))

abbrev pub shown_expressions : Expressions → List ℕ
shown_expressions parts = shown_offer (codes "offer pass 2\n") (rtl_text.shown_under (codes "input")) (rtl_text.shown_under (codes "output")) (rows_lines equation_words) parts

-- pass 3
abbrev pub Allocation : Type 0
Allocation = Parts rtl.FunctionData ltl.FunctionData (List (NodeRow alloc.Equation))

abbrev pub shown_allocation : Allocation → List ℕ
shown_allocation parts = shown_offer (codes "offer pass 3\n") (rtl_text.shown_under (codes "input")) (ltl_text.shown_under (codes "output")) (rows_lines place_words) parts

-- pass 4
abbrev pub Layout : Type 0
Layout = Parts ltl.FunctionData linear.FunctionData (List ℕ)

abbrev pub shown_layout : Layout → List ℕ
shown_layout parts = shown_offer (codes "offer pass 4\n") (ltl_text.shown_under (codes "input")) (linear_text.shown_under (codes "output")) order_line parts
