-- What is made of a body, and of a function: none where it needs too many nodes.
use Rattle.std.specs.Prelude.{◌≡◌, [], Option, MatchOption}
use Rattle.lang_base.specs.declared.program.Named.{Named}
use Rattle.cminor_syntax.specs.Trees.{FunctionTree}
use Rattle.rtl_language.specs.Function.{FunctionData}
use Rattle.rtlgen_definition.specs.Pieces.{Piece, both}
use Rattle.rtlgen_definition.specs.Gen.{statement, ends_with_value, ending, gen_function, gen_named, HasTooManyNodes}

-- a body, and what stands at its end
abbrev pub body_piece : FunctionTree → Piece
body_piece f = both (statement f.body f.variables []) (ending (ends_with_value f.body))

abbrev pub IsMadeOf : FunctionTree → Option FunctionData → Type 0
IsMadeOf f made = MatchOption made (HasTooManyNodes f) (λ g. g ≡ gen_function f)

-- under its name
abbrev pub IsMadeOfNamed : Named FunctionTree → Option (Named FunctionData) → Type 0
IsMadeOfNamed f made = MatchOption made (HasTooManyNodes f.function) (λ g. g ≡ gen_named f)
