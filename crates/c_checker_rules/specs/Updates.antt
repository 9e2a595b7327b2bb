-- What an update of a cell does is what the assignment would do, for which it stands (C99 6.5.16.2): the index has one word.
use Rattle.std.specs.Prelude.{◌≡◌, ℕ}
use Rattle.c_syntax.specs.declared.constant.IntegerType.{IntegerType}
use Rattle.c_syntax.specs.declared.expression.AssignOperator.{AssignOperator}
use Rattle.c_syntax.specs.Signs.{binary_of}
use Rattle.c_program.specs.Trees.{TermTree}
use Rattle.c_program.specs.Trees as P
use Rattle.c_program.specs.State.{State}
use Rattle.c_program.specs.Meaning.{Level, exec}
use Rattle.c_checker_rules.specs.Terms.{binary_term, change_operator}

abbrev pub UpdatesAsAssigned : Type 0
UpdatesAsAssigned =
    (o : AssignOperator) (s t : IntegerType) (g : ℕ) (i e : TermTree) (lower : Level) (now : State)
    → exec lower (P.Update g i (change_operator o s t) e) now ≡ exec lower (P.Store g i (binary_term (binary_of o) s t (P.Cell g i) e)) now
