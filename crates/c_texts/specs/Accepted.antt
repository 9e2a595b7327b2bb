-- When a text is a program of the farm's language (C99 6.4 to 6.9, cut to this project's profile).
use Rattle.std.specs.Prelude.{◌≡◌, ℕ, List}
use Rattle.std.specs.List.{AllByRecursion}
use Rattle.c_syntax.specs.declared.token.Token.{Token}
use Rattle.c_syntax.specs.Trees.{UnitTree}
use Rattle.c_syntax.specs.Heights.{IsLow}
use Rattle.c_syntax.specs.Declarations.{IsUnit}
use Rattle.c_lexer.specs.Texts.{HasTokens}
use Rattle.c_checker_rules.specs.Checked.{Contents, program_tree}
use Rattle.c_checker_rules.specs.Units.{IsWellFormed, program_of}

-- the text has tokens, they spell this tree, no part of the tree is too high, and the tree is well formed
pub record IsAccepted (text : List ℕ) (u : UnitTree) : Type 0 where
  pub tokens : List Token
  pub cut : HasTokens text tokens
  pub spelled : IsUnit u tokens
  pub low : AllByRecursion IsLow u.declarations
  pub well_formed : IsWellFormed u

-- the checked program is that of the tree
abbrev pub IsProgramOf : UnitTree → Contents → Type 0
IsProgramOf u p = program_tree p ≡ program_of u
