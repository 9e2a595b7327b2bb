-- At each bound the loops and calls of a Cminor program follow those of the C program that it was made of.
use Rattle.std.proofs.Common.{ℕ, zero, suc, List, map, ap}
use Rattle.c_program.specs.Trees.{FunctionTree}
use Rattle.c_program.specs.Meaning as C
use Rattle.cminor_syntax.specs.Meaning as M
use Rattle.cminor_lowering.specs.Programs.{low_named}
use Rattle.cminor_lowering.proofs.Statements.{LowerFollows, turns_follow}
use Rattle.cminor_lowering.proofs.Functions.{function_follows}

module _ (fs : List FunctionTree) where
  pub levels_follow : (n : ℕ) → LowerFollows (C.level fs n) (M.level (map low_named fs) n)
  levels_follow zero = record {
    turns = λ spare c body behind s t sees. ap (λ printed. M.RunsOut printed) sees.shares.output;
    calls = λ f ws s t shares. ap (λ printed. M.RunsOut printed) shares.output;
  }
  levels_follow (suc n) = record {
    turns = λ spare c body behind s t sees.
        turns_follow (C.level fs n) (M.level (map low_named fs) n) (levels_follow n) spare c body behind s t sees _ ((levels_follow n).turns spare c body behind);
    calls = λ f ws s t shares. function_follows (C.level fs n) (M.level (map low_named fs) n) (levels_follow n) fs f ws s t shares;
  }
