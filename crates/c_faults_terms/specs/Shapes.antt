-- The parts of an action, which stands for a statement.
use Rattle.std.specs.Prelude.{List, [], ◌∷◌, Option, Some, None}
use Rattle.c_program.specs.Trees.{TermTree, GivenTree, ActionTree, ActionsTree}
use Rattle.c_program.specs.Trees as P

-- what is given, and the term of a plain one
abbrev pub given_of : ActionTree → Option GivenTree
given_of (P.Give target v) = Some v
given_of t = None

abbrev pub plain_of : GivenTree → Option TermTree
plain_of (P.Plain e) = Some e
plain_of (P.Put e) = Some e
plain_of (P.Called f arguments) = None

-- the arguments of a call: the one of `putchar`, or a function's
abbrev pub arguments_of : GivenTree → List TermTree
arguments_of (P.Plain e) = []
arguments_of (P.Put e) = e ∷ []
arguments_of (P.Called f arguments) = arguments

-- the index and the value of a change
abbrev pub index_of : ActionTree → Option TermTree
index_of (P.Store g i e) = Some i
index_of (P.Update g i o e) = Some i
index_of t = None

abbrev pub stored_of : ActionTree → Option TermTree
stored_of (P.Store g i e) = Some e
stored_of (P.Update g i o e) = Some e
stored_of (P.Give target v) = plain_of v
stored_of t = None

-- the condition of an `if` or of a loop
abbrev pub condition_of : ActionTree → Option TermTree
condition_of (P.If c s t) = Some c
condition_of (P.Loop c s t) = Some c
condition_of t = None

abbrev pub all_of : ActionTree → ActionsTree
all_of (P.Sequence ss) = ss
all_of t = P.Done

-- of some actions the first and the second
abbrev pub first_of : ActionsTree → Option ActionTree
first_of P.Done = None
first_of (P.First s rest) = Some s

abbrev pub second_of : ActionsTree → Option ActionTree
second_of P.Done = None
second_of (P.First s rest) = first_of rest

-- the two actions of an `if`, of a loop and of a sequence of two
abbrev pub then_of : ActionTree → Option ActionTree
then_of (P.If c s t) = Some s
then_of (P.Loop c s t) = Some s
then_of (P.Sequence ss) = first_of ss
then_of t = None

abbrev pub else_of : ActionTree → Option ActionTree
else_of (P.If c s t) = Some t
else_of (P.Loop c s t) = Some t
else_of (P.Sequence ss) = second_of ss
else_of t = None
