-- What a cause is told as, with the values of the state in which it is found. Registers, globals and functions have the names of `show`.
use Rattle.std.specs.Prelude.{ℕ, List, ◌++◌, length, codes, slice_get, Option, Some, None}
use Rattle.std.specs.Fmt.{decimal}
use Rattle.lang_base.specs.declared.program.Global.{Global}
use Rattle.lang_base.specs.declared.program.Named.{Named}
use Rattle.linear_language.specs.Function.{FunctionData}
use Rattle.linear_faults.specs.declared.cause.Cause.{Cause}
use Rattle.linear_faults.specs.declared.cause.Cause.TheVariants.{Undefined, One, Two, Past, NoLabel, NoFunction, OtherArguments, NoInstruction, NoResult, NoMain}
use Rattle.cfarm_explain_words.specs.Operators.{index_text, one_text, two_text}

-- rN is used and holds no word
abbrev pub undefined_text : ℕ → List ℕ
undefined_text r = codes "r" ++ (decimal r ++ codes " is used and holds no word")

-- index I is not below N, the size of gG
abbrev pub size_text : ℕ → ℕ → ℕ → List ℕ
size_text global index size =
    codes "index " ++ (index_text index ++ (codes " is not below " ++ (decimal size ++ (codes ", the size of g" ++ decimal global))))

abbrev pub no_global_text : ℕ → List ℕ
no_global_text global = codes "there is no g" ++ decimal global

-- the same, where there is such a global
abbrev pub past_text : ℕ → ℕ → Option Global → List ℕ
past_text global index None = no_global_text global
past_text global index (Some g) = size_text global index g.cells

-- label N stands nowhere
abbrev pub label_text : ℕ → List ℕ
label_text label = codes "label " ++ (decimal label ++ codes " stands nowhere")

abbrev pub no_function_text : ℕ → List ℕ
no_function_text function = codes "there is no f" ++ decimal function

-- fN takes so many arguments, not as many as these
abbrev pub takes_text : ℕ → ℕ → ℕ → List ℕ
takes_text function count taken =
    codes "f" ++ (decimal function ++ (codes " takes " ++ (decimal taken ++ (codes " arguments, not " ++ decimal count))))

abbrev pub arguments_text : ℕ → ℕ → Option (Named FunctionData) → List ℕ
arguments_text function count None = no_function_text function
arguments_text function count (Some f) = takes_text function count (length f.function.parameters)

abbrev pub other_count_text : List (Named FunctionData) → ℕ → ℕ → List ℕ
other_count_text functions function count = arguments_text function count (slice_get functions function)

abbrev pub cause_text : List Global → List (Named FunctionData) → Cause → List ℕ
cause_text globals functions (Undefined r) = undefined_text r
cause_text globals functions (One op x) = one_text x
cause_text globals functions (Two op x y) = two_text op x y
cause_text globals functions (Past global index) = past_text global index (slice_get globals global)
cause_text globals functions (NoLabel label) = label_text label
cause_text globals functions (NoFunction function) = no_function_text function
cause_text globals functions (OtherArguments function count) = other_count_text functions function count
cause_text globals functions NoInstruction = codes "the code ends here"
cause_text globals functions NoResult = codes "main returns no word"
cause_text globals functions NoMain = codes "there is no main"
