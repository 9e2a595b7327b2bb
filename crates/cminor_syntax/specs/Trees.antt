-- The trees of Cminor without their addresses in memory: what the meaning, the ranges and the spelling speak of.
-- (Leroy 2009, section on Cminor; the exact forms are this project's own.)
use Rattle.std.specs.Prelude.{ℕ, List, Option}
use Rattle.machine.specs.Op.{Op}

-- an operator takes one word or two
pub data ExpressionTree : Type 0 where
  Number : (w : ℕ) → ExpressionTree
  Variable : (v : ℕ) → ExpressionTree
  Load : (g : ℕ) (i : ExpressionTree) → ExpressionTree
  Unary : (o : Op) (e : ExpressionTree) → ExpressionTree
  Binary : (o : Op) (a b : ExpressionTree) → ExpressionTree
  Choice : (c a b : ExpressionTree) → ExpressionTree

mutual
  pub data StatementTree : Type 0 where
    Skip : StatementTree
    Assign : (v : ℕ) (e : ExpressionTree) → StatementTree
    Store : (g : ℕ) (i e : ExpressionTree) → StatementTree
    Call : (f : ℕ) (target : Option ℕ) (arguments : List ExpressionTree) → StatementTree
    Put : (target : Option ℕ) (e : ExpressionTree) → StatementTree
    Sequence : (ss : StatementsTree) → StatementTree
    If : (e : ExpressionTree) (s t : StatementTree) → StatementTree
    Loop : (s : StatementTree) → StatementTree
    Block : (s : StatementTree) → StatementTree
    Exit : (n : ℕ) → StatementTree
    Return : (e : Option ExpressionTree) → StatementTree

  pub data StatementsTree : Type 0 where
    Done : StatementsTree
    First : (s : StatementTree) (rest : StatementsTree) → StatementsTree

-- a function: how many parameters it takes, how many variables it has, of which they are the first, and its body
pub record FunctionTree : Type 0 where
  pub parameters : ℕ
  pub variables : ℕ
  pub body : StatementTree
