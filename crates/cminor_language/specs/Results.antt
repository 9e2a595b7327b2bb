-- What the reader of a function's parts returned.
use Rattle.std.specs.Prelude.{ℕ, Result, Ok, Err}
use Rattle.lang_base.specs.declared.errors.FormError.{FormError}
use Rattle.cminor_syntax.specs.Trees.{StatementTree}
use Rattle.cminor_syntax.specs.Views.{statement_tree}
use Rattle.cminor_syntax.specs.declared.statement.Statement.{Statement}

abbrev pub parts_of : Result ((ℕ × ℕ) × Statement) FormError → Result ((ℕ × ℕ) × StatementTree) FormError
parts_of (Ok p) = Ok (p.0, statement_tree p.1)
parts_of (Err fault) = Err fault
