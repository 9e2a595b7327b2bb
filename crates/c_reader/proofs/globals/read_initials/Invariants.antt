use Rattle.std.proofs.Common.{map, length}
use Rattle.c_syntax.specs.declared.punctuator.Punctuator.TheVariants.{Comma}
use Rattle.c_syntax.specs.Heights.{highest}
use Rattle.c_syntax.specs.Views.{initial_tree}
use Rattle.c_reader_tokens.specs.Peeking.{is_sign_next}
use Rattle.c_reader_tokens.specs.Tokens.{sign}
use Rattle.c_reader_productions.specs.Combining.{◌▷◌, commas}
use Rattle.c_reader_statement_laws.proofs.Loops.{IsUnderWay}
use Rattle.c_reader_declaration_laws.specs.Reading.{initial}
use Rattle.c_reader.proofs.globals.read_initials.Given as goal

abbrev pub invariant-loop : goal.invariant-loop
invariant-loop l = IsUnderWay (is_sign_next Comma) (sign Comma ▷ initial highest) (length l.initial.rest) (commas (initial highest) l.tokens) (map initial_tree l.initials.items) l.counter l.rest
