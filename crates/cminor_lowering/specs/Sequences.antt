-- A sequence of statements. In Cminor's form a sequence tells by a number of 32 bits how many statements stand in it. More of them are cut
-- into pieces of as many as that number can tell, each a sequence, and where the pieces are too many still, they are cut once more.
use Rattle.std.specs.Prelude.{ℕ, zero, suc, ◌-◌, ◌^◌, nat_le, cond}
use Rattle.cminor_syntax.specs.Trees.{StatementTree, StatementsTree, Sequence, Done, First}
use Rattle.cminor_syntax.specs.Fits.{statement_count}

-- the most statements in one sequence
abbrev pub most_statements : ℕ
most_statements = 2 ^ 32 - 1

-- the rest of a piece that is begun, and the pieces behind it
pub record Cut : Type 0 where
  pub piece : StatementsTree
  pub behind : StatementsTree

-- a statement begins the next piece
abbrev pub begins : StatementTree → Cut → Cut
begins s c = record { piece = Done; behind = First (Sequence (First s c.piece)) c.behind }

-- a statement goes to the piece that is begun
abbrev pub goes : StatementTree → Cut → Cut
goes s c = record { piece = First s c.piece; behind = c.behind }

-- statements behind a piece to which so many may still go
abbrev pub cut : ℕ → StatementsTree → Cut
cut left Done = record { piece = Done; behind = Done }
cut zero (First s rest) = begins s (cut (most_statements - 1) rest)
cut (suc left) (First s rest) = goes s (cut left rest)

-- the pieces of statements, each a sequence
abbrev pub pieces : StatementsTree → StatementsTree
pieces ss = First (Sequence (cut most_statements ss).piece) (cut most_statements ss).behind

-- the statements themselves where they are few enough for one sequence, else their pieces
abbrev pub gathered : StatementsTree → StatementsTree
gathered ss = cond (nat_le (statement_count ss) most_statements) ss (pieces ss)

abbrev pub sequence : StatementsTree → StatementTree
sequence ss = Sequence (gathered (gathered ss))
