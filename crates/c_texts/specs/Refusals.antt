-- Why a text is refused, with the number and the place that a user is shown.
use Rattle.std.specs.Prelude.{◌≡◌, ◌≢◌, ℕ, List, Option}
use Rattle.std.specs.List.{AllByRecursion}
use Rattle.c_syntax.specs.declared.token.Token.{Token}
use Rattle.c_syntax.specs.Trees.{UnitTree}
use Rattle.c_syntax.specs.Heights.{IsLow}
use Rattle.c_syntax.specs.Declarations.{IsUnit}
use Rattle.c_lexer.specs.declared.errors.LexError.TheVariants as L
use Rattle.c_lexer.specs.Refusals as lexed
use Rattle.c_lexer.specs.Texts.{HasTokens, HasFault}
use Rattle.c_reader.specs.declared.errors.ReadError.{ReadError}
use Rattle.c_reader.specs.declared.errors.ReadError.TheVariants as R
use Rattle.c_reader.specs.Numbers.{number_of_read_error, offset_of_read_error}
use Rattle.c_reader.specs.Refusing.{Refuses}
use Rattle.c_checker_rules.specs.declared.errors.CheckError.{CheckError}
use Rattle.c_checker_rules.specs.declared.errors.CheckError.TheVariants as C
use Rattle.c_checker_rules.specs.Numbers.{number_of_check_error, offset_of_check_error}
use Rattle.c_checker_rules.specs.Told.{Tells}
use Rattle.c_checker_rules.specs.Units.{unit_faults}
use Rattle.c_texts.specs.declared.error.TextError.{TextError}
use Rattle.c_texts.specs.declared.error.TextError.TheVariants.{Lex, Read, Check}

abbrev pub number_of : TextError → ℕ
number_of (Lex fault) = lexed.number_of fault
number_of (Read fault) = number_of_read_error fault
number_of (Check fault) = number_of_check_error fault

abbrev pub offset_of : TextError → Option ℕ
offset_of (Lex fault) = lexed.offset_of fault
offset_of (Read fault) = offset_of_read_error fault
offset_of (Check fault) = offset_of_check_error fault

-- a growth of memory was refused, which says nothing of the text
abbrev pub IsOutOfMemory : TextError → Type 0
IsOutOfMemory (Lex fault) = fault ≡ L.NoMemory
IsOutOfMemory (Read fault) = fault ≡ R.NoMemory
IsOutOfMemory (Check fault) = fault ≡ C.NoMemory

-- The tokens of a text spell no tree, or none that is not too high.
pub record IsMisread (text : List ℕ) (fault : ReadError) : Type 0 where
  pub tokens : List Token
  pub cut : HasTokens text tokens
  pub refuses : Refuses fault tokens

-- The tree of a text is not well formed, and this is its first fault in the order of the text.
pub record IsIllFormed (text : List ℕ) (fault : CheckError) : Type 0 where
  pub tokens : List Token
  pub tree : UnitTree
  pub cut : HasTokens text tokens
  pub spelled : IsUnit tree tokens
  pub low : AllByRecursion IsLow tree.declarations
  pub told : Tells fault (unit_faults tree)

-- What a refusal says of a text: its first fault. That memory was refused says nothing of it.
abbrev pub IsRefused : List ℕ → TextError → Type 0
IsRefused text (Lex fault) = fault ≢ L.NoMemory → HasFault text fault
IsRefused text (Read fault) = IsMisread text fault
IsRefused text (Check fault) = IsIllFormed text fault
