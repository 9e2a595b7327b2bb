-- The words of what certificates say at a node.
use Rattle.std.specs.Prelude.{ℕ, List, [], ◌∷◌}
use Rattle.constprop_check_rules.specs.declared.fact.Fact.{Fact}
use Rattle.cse_check_rules.specs.declared.equation.Equation as cse
use Rattle.cse_check_rules.specs.declared.equation.RightSide.{RightSide}
use Rattle.cse_check_rules.specs.declared.equation.RightSide.TheVariants.{Operation, Cell, Copy}
use Rattle.alloc_check_rules.specs.declared.equation.Equation as alloc
use Rattle.text_keys.specs.declared.key.Key.TheVariants as key
use Rattle.text_keys.specs.declared.word.Word.{Word}
use Rattle.text_keys.specs.declared.word.Word.TheVariants.{Number, Named}
use Rattle.text_rtl.specs.Acts.{register_word, operate_words, load_words}
use Rattle.text_common.specs.Acts.{location_word}

-- `constant 5`
abbrev pub constant_words : ℕ → List Word
constant_words word = Named key.Constant ∷ Number word ∷ []

-- `r7 = constant 5`
abbrev pub fact_words : Fact → List Word
fact_words fact = register_word fact.register ∷ Named key.Is ∷ constant_words fact.word

-- what stands right of an equation, as in RTL
abbrev pub right_words : RightSide → List Word
right_words (Operation op arguments) = operate_words op arguments
right_words (Cell global index) = load_words global index
right_words (Copy source) = Named key.Move ∷ register_word source ∷ []

-- `r7 = AddS r1 r2`
abbrev pub equation_words : cse.Equation → List Word
equation_words equation = register_word equation.register ∷ Named key.Is ∷ right_words equation.right

-- `r7 = s3`: a register of RTL, and the location that has its word
abbrev pub place_words : alloc.Equation → List Word
place_words equation = register_word equation.register ∷ Named key.Is ∷ location_word equation.location ∷ []
