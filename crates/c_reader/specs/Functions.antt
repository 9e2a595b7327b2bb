-- How a function is read behind its prototype, and a name that a prototype's parameter may be without.
use Rattle.std.specs.Prelude.{Option}
use Rattle.c_syntax.specs.Heights.{highest}
use Rattle.c_syntax.specs.Trees.{DeclarationTree}
use Rattle.c_syntax.specs.declared.declaration.Prototype.{Prototype}
use Rattle.c_syntax.specs.declared.identifier.Identifier.{Identifier}
use Rattle.c_reader_tokens.specs.Reading.{Reading}
use Rattle.c_reader_tokens.specs.Peeking.{is_name_next}
use Rattle.c_reader_tokens.specs.Tokens.{placed_name}
use Rattle.c_reader_productions.specs.Combining.{either, there, missing}
use Rattle.c_reader_declaration_laws.specs.Parameters.{all_named}
use Rattle.c_reader_declaration_laws.specs.Reading.{function}

-- its parameters have names, and its body is no higher than a function may be
abbrev pub function_of : Prototype → Reading DeclarationTree
function_of prototype ts = function highest prototype (all_named prototype.parameters) ts

abbrev pub open_name : Reading (Option Identifier)
open_name ts = either is_name_next (there placed_name) missing ts
