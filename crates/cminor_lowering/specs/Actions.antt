-- The statement of Cminor that an action of C stands for (C99 6.8; Leroy 2009, section 3.1). `continue` leaves the block round a
-- loop's body, and `break` the one round the loop. What stands behind the body has no block of its own, so that `continue` there
-- leaves the loop. One variable more than the locals, the spare one, holds what a call or `putchar` gives before it goes to a
-- global or to the caller, and the index of a cell that is updated.
use Rattle.std.specs.Prelude.{ℕ, Option, Some, None, map}
use Rattle.ints.specs.declared.operators.Op.{Op}
use Rattle.c_program.specs.declared.action.Target.{Target}
use Rattle.c_program.specs.declared.action.Target.TheVariants.{Nowhere, Local, Global, Caller}
use Rattle.c_program.specs.Trees.{TermTree, GivenTree, ActionTree, ActionsTree}
use Rattle.c_program.specs.Trees as C
use Rattle.cminor_syntax.specs.Trees.{ExpressionTree, StatementTree, StatementsTree, Number, Variable, Load, Binary, Skip, Assign, Store, Call, Put, Sequence, If, Loop, Block, Exit, Return, Done, First}
use Rattle.cminor_lowering.specs.Sequences.{sequence}
use Rattle.cminor_lowering.specs.Terms.{low_term}

abbrev pub two : StatementTree → StatementTree → StatementTree
two s t = Sequence (First s (First t Done))

-- an expression's word goes to its target
abbrev pub low_plain : Target → ExpressionTree → StatementTree
low_plain Nowhere e = Skip
low_plain (Local n) e = Assign n e
low_plain (Global g) e = Store g (Number 0) e
low_plain Caller e = Return (Some e)

-- A call or `putchar`, which gives its word to a variable, if one is named; the word goes to its target.
abbrev pub low_given_by : ℕ → Target → (Option ℕ → StatementTree) → StatementTree
low_given_by spare Nowhere s = s None
low_given_by spare (Local n) s = s (Some n)
low_given_by spare (Global g) s = two (s (Some spare)) (Store g (Number 0) (Variable spare))
low_given_by spare Caller s = two (s (Some spare)) (Return (Some (Variable spare)))

abbrev pub low_given : ℕ → Target → GivenTree → StatementTree
low_given spare target (C.Plain e) = low_plain target (low_term e)
low_given spare target (C.Called f es) = low_given_by spare target (λ v. Call f v (map low_term es))
low_given spare target (C.Put e) = low_given_by spare target (λ v. Put v (low_term e))

-- a cell of a global becomes what an operator gives of its word and another: the index is evaluated once (C99 6.5.16.2)
abbrev pub update : ℕ → ℕ → ExpressionTree → Op → ExpressionTree → StatementTree
update spare g i o e = two (Assign spare i) (Store g (Variable spare) (Binary o (Load g (Variable spare)) e))

-- a turn of a loop: its condition, its body, and what stands behind that
abbrev pub turn : ExpressionTree → StatementTree → StatementTree → StatementTree
turn c body behind = Sequence (First (If c Skip (Exit 0)) (First (Block body) (First behind Done)))

abbrev mutual
  pub low_action : ℕ → ActionTree → StatementTree
  low_action spare C.Nothing = Skip
  low_action spare (C.Declare n) = Skip
  low_action spare (C.Sequence ss) = sequence (low_actions spare ss)
  low_action spare (C.Give target v) = low_given spare target v
  low_action spare (C.Store g i e) = Store g (low_term i) (low_term e)
  low_action spare (C.Update g i o e) = update spare g (low_term i) o (low_term e)
  low_action spare (C.If c s t) = If (low_term c) (low_action spare s) (low_action spare t)
  low_action spare (C.Loop c body behind) = Block (Loop (turn (low_term c) (low_action spare body) (low_action spare behind)))
  low_action spare C.Break = Exit 1
  low_action spare C.Continue = Exit 0
  low_action spare C.Leave = Return None

  pub low_actions : ℕ → ActionsTree → StatementsTree
  low_actions spare C.Done = Done
  low_actions spare (C.First s rest) = First (low_action spare s) (low_actions spare rest)
