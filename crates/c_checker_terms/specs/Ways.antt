-- The term that each way makes of two.
use Rattle.c_program.specs.Trees.{TermTree}
use Rattle.c_program.specs.Trees as P
use Rattle.c_checker_terms.specs.declared.ways.Way.{Way}
use Rattle.c_checker_terms.specs.declared.ways.Way.TheVariants as W

abbrev pub made : Way → TermTree → TermTree → TermTree
made (W.Applied o) a b = P.Binary o a b
made (W.Swapped o) a b = P.Binary o b a
made W.Either a b = P.Either a b
made W.Both a b = P.Both a b
