-- What is true of each program that a machine holds: each constant is a word of 32 bits, and the number of actions in each sequence is
-- one of 64 bits.
use Rattle.std.specs.Prelude.{ℕ, suc, ◌<◌, ◌^◌}
use Rattle.std.specs.List.{AllByRecursion}
use Rattle.c_program.specs.Trees.{TermTree, GivenTree, ActionTree, ActionsTree, FunctionTree, ProgramTree}
use Rattle.c_program.specs.Trees as C

abbrev pub HasWords : TermTree → Type 0
HasWords (C.Constant w) = w < 2 ^ 32
HasWords (C.Local n) = Unit {0}
HasWords (C.Cell g i) = HasWords i
HasWords (C.Unary o a) = HasWords a
HasWords (C.Binary o a b) = HasWords a × HasWords b
HasWords (C.Both a b) = HasWords a × HasWords b
HasWords (C.Either a b) = HasWords a × HasWords b
HasWords (C.Conditional c a b) = HasWords c × (HasWords a × HasWords b)

abbrev pub GivenHasWords : GivenTree → Type 0
GivenHasWords (C.Plain e) = HasWords e
GivenHasWords (C.Called f es) = AllByRecursion HasWords es
GivenHasWords (C.Put e) = HasWords e

abbrev pub action_count : ActionsTree → ℕ
action_count C.Done = 0
action_count (C.First s rest) = suc (action_count rest)

-- a sequence has fewer actions
abbrev pub action_limit : ℕ
action_limit = 2 ^ 64

abbrev mutual
  pub IsHeld : ActionTree → Type 0
  IsHeld C.Nothing = Unit {0}
  IsHeld (C.Declare n) = Unit {0}
  IsHeld (C.Sequence ss) = (action_count ss < action_limit) × AreHeld ss
  IsHeld (C.Give target v) = GivenHasWords v
  IsHeld (C.Store g i e) = HasWords i × HasWords e
  IsHeld (C.Update g i o e) = HasWords i × HasWords e
  IsHeld (C.If c s t) = HasWords c × (IsHeld s × IsHeld t)
  IsHeld (C.Loop c s t) = HasWords c × (IsHeld s × IsHeld t)
  IsHeld C.Break = Unit {0}
  IsHeld C.Continue = Unit {0}
  IsHeld C.Leave = Unit {0}

  pub AreHeld : ActionsTree → Type 0
  AreHeld C.Done = Unit {0}
  AreHeld (C.First s rest) = IsHeld s × AreHeld rest

abbrev pub IsHeldFunction : FunctionTree → Type 0
IsHeldFunction f = (action_count f.body < action_limit) × AreHeld f.body

abbrev pub IsHeldProgram : ProgramTree → Type 0
IsHeldProgram p = AllByRecursion IsHeldFunction p.functions
