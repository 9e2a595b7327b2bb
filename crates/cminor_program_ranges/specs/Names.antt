-- The functions of a program have C names (C99 6.4.2), as those of each text that is accepted do.
use Rattle.std.specs.List.{AllByRecursion}
use Rattle.c_lexer_lexemes.specs.Lexemes.{IsName}
use Rattle.c_program.specs.Trees.{ProgramTree}

abbrev pub HaveNames : ProgramTree → Type 0
HaveNames p = AllByRecursion (λ f. IsName f.name) p.functions
