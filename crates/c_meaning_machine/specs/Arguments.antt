-- The words of arguments, and where they stand: behind the locals, among which they were evaluated.
use Rattle.std.specs.Prelude.{◌≡◌, ℕ, Bool, true, false, List, [], ◌++◌, Option, Some, None, map}
use Rattle.c_program.specs.declared.term.Term.{Term}
use Rattle.c_program.specs.Views.{term_tree}
use Rattle.c_program.specs.State.{words}
use Rattle.c_meaning_machine.specs.declared.scope.Scope.{Scope}
use Rattle.c_meaning_machine.specs.Scopes.{state_of}

-- whether each argument has a word, and then the locals with these words behind them
abbrev pub IsPlaced : Bool → Option (List ℕ) → List (Option ℕ) → List (Option ℕ) → Type 0
IsPlaced true (Some ws) before after = after ≡ before ++ map Some ws
IsPlaced true None before after = ⊥
IsPlaced false (Some ws) before after = ⊥
IsPlaced false None before after = Unit {0}

-- whether each argument has a word, and then these words
abbrev pub AreWorth : List Term → Scope → List ℕ → Bool → Type 0
AreWorth arguments scope ws true = words (map term_tree arguments) (state_of scope []) ≡ Some ws
AreWorth arguments scope ws false = words (map term_tree arguments) (state_of scope []) ≡ None

-- These arguments' words stand behind the locals, evaluated among those that stood there before.
abbrev pub ArePutBehind : List Term → Scope → Scope → Bool → Type 0
ArePutBehind arguments old new done = IsPlaced done (words (map term_tree arguments) (state_of old [])) old.locals.items new.locals.items
