use Rattle.std.proofs.Common.{map, length}
use Rattle.c_syntax.specs.declared.punctuator.Punctuator.TheVariants.{Comma}
use Rattle.c_syntax.specs.Views.{expression_tree}
use Rattle.c_reader_tokens.specs.Peeking.{is_sign_next}
use Rattle.c_reader_tokens.specs.Tokens.{sign}
use Rattle.c_reader_expression_laws.specs.Reading.{expression_at}
use Rattle.c_reader_productions.specs.Combining.{◌▷◌, commas}
use Rattle.c_reader_statement_laws.proofs.Loops.{IsUnderWay}
use Rattle.c_reader_statements.proofs.parts.read_expressions.Given as goal

abbrev pub invariant-loop : goal.invariant-loop
invariant-loop l = IsUnderWay (is_sign_next Comma) (sign Comma ▷ expression_at l.fuel 0) (length l.initial.rest) (commas (expression_at l.fuel 0) l.tokens) (map expression_tree l.expressions.items) l.counter l.rest
