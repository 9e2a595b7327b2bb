use Rattle.std.proofs.Common.{length}
use Rattle.c_syntax.specs.declared.punctuator.Punctuator.TheVariants.{Comma}
use Rattle.c_reader_tokens.specs.Peeking.{is_sign_next}
use Rattle.c_reader_tokens.specs.Tokens.{sign}
use Rattle.c_reader_productions.specs.Combining.{◌▷◌, commas}
use Rattle.c_reader_statement_laws.proofs.Loops.{IsUnderWay}
use Rattle.c_reader_declaration_laws.specs.Reading.{open_parameter}
use Rattle.c_reader.proofs.parameters.read_listed.Given as goal

abbrev pub invariant-loop : goal.invariant-loop
invariant-loop l = IsUnderWay (is_sign_next Comma) (sign Comma ▷ open_parameter) (length l.initial.rest) (commas open_parameter l.tokens) l.parameters.items l.counter l.rest
