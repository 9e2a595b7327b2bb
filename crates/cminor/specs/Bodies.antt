-- What a function does, and what it does where the end of its body is reached.
use Rattle.std.specs.Prelude.{ℕ, Bool, if◌then◌else◌, Some}
use Rattle.c_program.specs.Trees as C
use Rattle.cminor_syntax.specs.Trees.{StatementsTree, Number, Return, First, Done}
use Rattle.cminor_lowering.specs.Actions.{low_actions}
use Rattle.cminor_lowering.specs.Programs.{low_ending, ends_with_return, followed_by}

abbrev pub ending_of : C.FunctionTree → StatementsTree
ending_of f = low_ending f.ending (ends_with_return f.body)

abbrev pub body_of : (spare : ℕ) → C.FunctionTree → StatementsTree
body_of spare f = followed_by (low_actions spare f.body) (ending_of f)

-- 0 is returned, or nothing is done
abbrev pub zero_or_nothing : Bool → StatementsTree
zero_or_nothing returns = if returns then First (Return (Some (Number 0))) Done else Done
