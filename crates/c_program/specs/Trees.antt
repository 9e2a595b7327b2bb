-- A checked program without its addresses in memory: what every meaning speaks of.
use Rattle.std.specs.Prelude.{ℕ, List}
use Rattle.ints.specs.declared.operators.Op.{Op}
use Rattle.c_program.specs.declared.action.Target.{Target}
use Rattle.c_program.specs.declared.function.Ending.{Ending}
use Rattle.c_program.specs.declared.function.GlobalVariable.{GlobalVariable}

pub data TermTree : Type 0 where
  Constant : (word : ℕ) → TermTree
  Local : (number : ℕ) → TermTree
  Cell : (global : ℕ) (index : TermTree) → TermTree
  Unary : (o : Op) (a : TermTree) → TermTree
  Binary : (o : Op) (a b : TermTree) → TermTree
  Both : (a b : TermTree) → TermTree
  Either : (a b : TermTree) → TermTree
  Conditional : (c a b : TermTree) → TermTree

-- what gives a value
pub data GivenTree : Type 0 where
  Plain : (e : TermTree) → GivenTree
  Called : (function : ℕ) (arguments : List TermTree) → GivenTree
  Put : (e : TermTree) → GivenTree

mutual
  pub data ActionTree : Type 0 where
    Nothing : ActionTree
    Declare : (local : ℕ) → ActionTree
    Sequence : (s : ActionsTree) → ActionTree
    Give : (target : Target) (v : GivenTree) → ActionTree
    Store : (global : ℕ) (index e : TermTree) → ActionTree
    Update : (global : ℕ) (index : TermTree) (o : Op) (e : TermTree) → ActionTree
    If : (c : TermTree) (s t : ActionTree) → ActionTree
    Loop : (c : TermTree) (body behind : ActionTree) → ActionTree
    Break : ActionTree
    Continue : ActionTree
    Leave : ActionTree

  pub data ActionsTree : Type 0 where
    Done : ActionsTree
    First : (s : ActionTree) (rest : ActionsTree) → ActionsTree

pub record FunctionTree : Type 0 where
  pub name : List ℕ
  pub parameters : ℕ
  pub locals : ℕ
  pub ending : Ending
  pub body : ActionsTree

-- the globals, the functions in the order of their definitions, and the number of main
pub record ProgramTree : Type 0 where
  pub globals : List GlobalVariable
  pub functions : List FunctionTree
  pub main : ℕ
