-- A text's tree without its addresses in memory: what the grammar, the heights and every meaning speak of.
-- (C99 6.5 to 6.9, cut to this project's profile.)
use Rattle.std.specs.Prelude.{ℕ, List, Option}
use Rattle.c_syntax.specs.declared.constant.Constant.{Constant}
use Rattle.c_syntax.specs.declared.constant.IntegerType.{IntegerType}
use Rattle.c_syntax.specs.declared.identifier.Identifier.{Identifier}
use Rattle.c_syntax.specs.declared.expression.UnaryOperator.{UnaryOperator}
use Rattle.c_syntax.specs.declared.expression.BinaryOperator.{BinaryOperator}
use Rattle.c_syntax.specs.declared.expression.AssignOperator.{AssignOperator}
use Rattle.c_syntax.specs.declared.declaration.ReturnType.{ReturnType}
use Rattle.c_syntax.specs.declared.declaration.Parameter.{Parameter}
use Rattle.c_syntax.specs.declared.declaration.Prototype.{Prototype}

pub data ExpressionTree : Type 0 where
  Number : (c : Constant) → ExpressionTree
  Variable : (x : Identifier) → ExpressionTree
  Element : (a : Identifier) (e : ExpressionTree) → ExpressionTree
  Parenthesis : (e : ExpressionTree) → ExpressionTree
  Cast : (t : IntegerType) (e : ExpressionTree) → ExpressionTree
  Unary : (o : UnaryOperator) (e : ExpressionTree) → ExpressionTree
  Binary : (o : BinaryOperator) (a b : ExpressionTree) → ExpressionTree
  Conditional : (c a b : ExpressionTree) → ExpressionTree

pub record CallTree : Type 0 where
  pub callee : Identifier
  pub arguments : List ExpressionTree

-- the right side of an assignment to a name, of a local's initializer and of `return`
pub data ValueTree : Type 0 where
  Plain : (e : ExpressionTree) → ValueTree
  Called : (c : CallTree) → ValueTree

-- what is changed, and what a `for` sets
pub data LvalueTree : Type 0 where
  Name : (x : Identifier) → LvalueTree
  Cell : (a : Identifier) (e : ExpressionTree) → LvalueTree

-- an lvalue is changed by an operator and a value
pub record ChangeTree : Type 0 where
  pub lvalue : LvalueTree
  pub operator : AssignOperator
  pub value : ExpressionTree

-- what a `for` begins with, and what it does behind each turn
pub data SetTree : Type 0 where
  Becomes : (l : LvalueTree) (e : ExpressionTree) → SetTree
  Changes : (c : ChangeTree) → SetTree

pub record LocalTree : Type 0 where
  pub kind : IntegerType
  pub name : Identifier
  pub value : Option ValueTree

-- how a `for` begins
pub data StartTree : Type 0 where
  StartNothing : StartTree
  StartSet : (s : SetTree) → StartTree
  StartLocal : (t : IntegerType) (x : Identifier) (e : ExpressionTree) → StartTree

mutual
  pub data StatementTree : Type 0 where
    Empty : StatementTree
    Local : (l : LocalTree) → StatementTree
    Block : (s : StatementsTree) → StatementTree
    Call : (c : CallTree) → StatementTree
    Assign : (x : Identifier) (v : ValueTree) → StatementTree
    Store : (a : Identifier) (i e : ExpressionTree) → StatementTree
    Change : (c : ChangeTree) → StatementTree
    If : (e : ExpressionTree) (s : StatementTree) → StatementTree
    IfElse : (e : ExpressionTree) (s t : StatementTree) → StatementTree
    While : (e : ExpressionTree) (s : StatementTree) → StatementTree
    Do : (s : StatementTree) (e : ExpressionTree) → StatementTree
    For : (start : StartTree) (e : Option ExpressionTree) (step : Option SetTree) (s : StatementTree) → StatementTree
    Break : (at : ℕ) → StatementTree
    Continue : (at : ℕ) → StatementTree
    Return : (at : ℕ) (v : Option ValueTree) → StatementTree

  pub data StatementsTree : Type 0 where
    Done : StatementsTree
    First : (s : StatementTree) (rest : StatementsTree) → StatementsTree

pub record InitialTree : Type 0 where
  pub value : ExpressionTree
  pub offset : ℕ

pub data InitializerTree : Type 0 where
  Single : (i : InitialTree) → InitializerTree
  Braced : (is : List InitialTree) → InitializerTree

pub record GlobalTree : Type 0 where
  pub kind : IntegerType
  pub name : Identifier
  pub size : Option Constant
  pub initializer : Option InitializerTree

pub record FunctionTree : Type 0 where
  pub result : ReturnType
  pub name : Identifier
  pub parameters : List Parameter
  pub body : StatementsTree

pub data DeclarationTree : Type 0 where
  Global : (g : GlobalTree) → DeclarationTree
  Function : (f : FunctionTree) → DeclarationTree
  Prototype' : (p : Prototype) → DeclarationTree

-- what a text declares, in order, and where its last token ends
pub record UnitTree : Type 0 where
  pub declarations : List DeclarationTree
  pub end : ℕ
