-- A block whose statements have some fuel: what is read is spelled so, what is spelled so is read, and more fuel
-- reads the same.
use Rattle.std.proofs.Common.{◌≡◌, ℕ, ◌≤◌, List, ◌++◌, Ok}
use Rattle.c_syntax.specs.declared.punctuator.Punctuator.TheVariants.{LeftBrace, RightBrace}
use Rattle.c_syntax.specs.declared.token.Token.{Token}
use Rattle.c_syntax.specs.Trees.{StatementsTree}
use Rattle.c_syntax.specs.Parts.{Sign, ◌⨾◌}
use Rattle.c_syntax.specs.Statements.{AreStatements}
use Rattle.c_syntax.specs.Heights.{statements_height}
use Rattle.c_reader_tokens.specs.Reading.{IsSameOrTooDeep}
use Rattle.c_reader_statement_laws.specs.Reading.{block_in, statement_at}
use Rattle.c_reader_productions.proofs.Laws.{IsTaken, Any}
use Rattle.c_reader_statement_laws.proofs.StatementsTaken.{block_sound, statement_sound}
use Rattle.c_reader_statement_laws.proofs.StatementsAgain as again
use Rattle.c_reader_statement_laws.proofs.StatementsAgain.{statement_whole}
use Rattle.c_reader_statement_laws.proofs.Stays.{block_keeps, statement_keeps}

abbrev pub IsBlock : StatementsTree → List Token → Type 0
IsBlock ss = Sign LeftBrace ⨾ (AreStatements ss ⨾ Sign RightBrace)

pub block_takes : (fuel : ℕ) (ts : List Token) (ss : StatementsTree) (rest : List Token) → block_in (statement_at fuel) ts ≡ Ok (ss, rest) → IsTaken (λ ss. statements_height ss ≤ fuel) IsBlock Any ts ss rest
block_takes fuel ts ss rest e = (block_sound (statement_at fuel) fuel (statement_sound fuel)).takes ts ss rest e

pub block_again : (fuel : ℕ) (ss : StatementsTree) (xs rest : List Token) → statements_height ss ≤ fuel → IsBlock ss xs → block_in (statement_at fuel) (xs ++ rest) ≡ Ok (ss, rest)
block_again fuel ss xs rest low d = again.block_again (statement_at fuel) fuel (statement_whole fuel) ss xs rest low d

pub block_stays : (fuel more : ℕ) (ts : List Token) → fuel ≤ more → IsSameOrTooDeep (block_in (statement_at fuel) ts) (block_in (statement_at more) ts)
block_stays fuel more ts le = block_keeps (statement_at fuel) (statement_at more) fuel more le (statement_keeps fuel more le) ts
