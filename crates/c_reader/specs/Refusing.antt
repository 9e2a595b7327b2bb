-- What a refusal says of the tokens: that none of the grammar's trees are spelled by them, or none that are low.
use Rattle.std.specs.Prelude.{List}
use Rattle.std.specs.List.{AllByRecursion}
use Rattle.c_syntax.specs.declared.token.Token.{Token}
use Rattle.c_syntax.specs.Trees.{UnitTree}
use Rattle.c_syntax.specs.Heights.{IsLow}
use Rattle.c_syntax.specs.Declarations.{IsUnit}
use Rattle.c_reader.specs.declared.errors.ReadError.{ReadError}
use Rattle.c_reader.specs.declared.errors.ReadError.TheVariants as E

-- no function and no initializer of it is too high
abbrev pub AreLow : UnitTree → Type 0
AreLow u = AllByRecursion IsLow u.declarations

-- Syntax: no tree, however high. Being out of memory says nothing.
abbrev pub Refuses : ReadError → List Token → Type 0
Refuses E.NoMemory ts = Unit {0}
Refuses (E.Syntax at) ts = (u : UnitTree) → IsUnit u ts → ⊥
Refuses (E.TooDeep at) ts = (u : UnitTree) → IsUnit u ts → AreLow u → ⊥
