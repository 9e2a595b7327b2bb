-- The operator of a compound assignment, and what it does to a cell.
use Rattle.std.proofs.Common.{◌≡◌, ℕ, Option, Some, None, refl, sym, ap, ◌∙◌}
use Rattle.std.specs.Prelude.{option_and_then}
use Rattle.c_program.specs.Op.{Op}
use Rattle.c_syntax.specs.declared.constant.IntegerType.{IntegerType}
use Rattle.c_syntax.specs.declared.expression.AssignOperator.{AssignOperator}
use Rattle.c_syntax.specs.declared.expression.AssignOperator.TheVariants as A
use Rattle.c_syntax.specs.Signs.{binary_of}
use Rattle.c_program.specs.Trees.{TermTree}
use Rattle.c_program.specs.Trees as P
use Rattle.c_program.specs.Values.{cell_of, on_two}
use Rattle.c_program.specs.State.{State, word}
use Rattle.c_program.specs.Meaning.{stores, updates, exec}
use Rattle.c_checker_rules.specs.Terms.{binary_term, change_operator}
use Rattle.c_checker_rules.specs.Updates.{UpdatesAsAssigned}

-- it applies one operator of the tables, by the types of both
pub change_applied : (o : AssignOperator) (s t : IntegerType) (a b : TermTree) →
    binary_term (binary_of o) s t a b ≡ P.Binary (change_operator o s t) a b
change_applied A.Multiply s t a b = refl
change_applied A.Divide s t a b = refl
change_applied A.Remainder s t a b = refl
change_applied A.Add s t a b = refl
change_applied A.Subtract s t a b = refl
change_applied A.ShiftLeft s t a b = refl
change_applied A.ShiftRight s t a b = refl
change_applied A.And s t a b = refl
change_applied A.Xor s t a b = refl
change_applied A.Or s t a b = refl

-- the cell is read by the index that has been evaluated
index_once : (g : ℕ) (o : Op) (now : State) (i w : Option ℕ) →
    updates g o now i w ≡ stores g now i (on_two o (option_and_then (cell_of now.globals g) i) w)
index_once g o now None w = refl
index_once g o now (Some i) w = refl

pub updates_as_assigned : UpdatesAsAssigned
updates_as_assigned o s t g i e lower now =
    index_once g (change_operator o s t) now (word i now) (word e now)
    ∙ ap (λ a. exec lower (P.Store g i a) now) (sym (change_applied o s t (P.Cell g i) e))
