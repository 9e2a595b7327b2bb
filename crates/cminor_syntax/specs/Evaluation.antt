-- What expressions give (Leroy 2009, section 3.1). A value is a word or undefined; where an undefined one is
-- used, or the machine's table has no answer, or a cell is not there, there is no value: the run goes wrong.
use Rattle.std.specs.Prelude.{ℕ, ◌==◌, List, [], ◌∷◌, Option, Some, None, option_and_then, if◌then◌else◌}
use Rattle.machine.specs.MachineTable.{machine_table}
use Rattle.machine.specs.Acts.{pair_of}
use Rattle.cminor_syntax.specs.Trees.{ExpressionTree, Number, Variable, Load, Unary, Binary, Choice}
use Rattle.cminor_syntax.specs.State.{State, held, cell}

-- a value's word, where one is needed
abbrev pub word_of : Option (Option ℕ) → Option ℕ
word_of None = None
word_of (Some value) = value

-- a word as a value
abbrev pub defined : Option ℕ → Option (Option ℕ)
defined None = None
defined (Some w) = Some (Some w)

-- the value that a condition chooses: the first where it is not 0
abbrev pub chosen : Option ℕ → Option (Option ℕ) → Option (Option ℕ) → Option (Option ℕ)
chosen None a b = None
chosen (Some w) a b = if w == 0 then b else a

-- A variable may be undefined, and so may be the value that is chosen. Only that one is evaluated.
abbrev pub value : ExpressionTree → State → Option (Option ℕ)
value (Number w) s = Some (Some w)
value (Variable v) s = Some (held v s)
value (Load g i) s = defined (option_and_then (cell s.globals g) (word_of (value i s)))
value (Unary o e) s = defined (option_and_then (λ x. machine_table o (x ∷ [])) (word_of (value e s)))
value (Binary o a b) s = defined (option_and_then (machine_table o) (pair_of (word_of (value a s)) (word_of (value b s))))
value (Choice c a b) s = chosen (word_of (value c s)) (value a s) (value b s)

-- the word that an expression gives
abbrev pub word : ExpressionTree → State → Option ℕ
word e s = word_of (value e s)

-- a value before others
abbrev pub before : Option (Option ℕ) → Option (List (Option ℕ)) → Option (List (Option ℕ))
before None vs = None
before (Some v) None = None
before (Some v) (Some vs) = Some (v ∷ vs)

-- the values of arguments, which may be undefined
abbrev pub values : List ExpressionTree → State → Option (List (Option ℕ))
values [] s = Some []
values (e ∷ es) s = before (value e s) (values es s)
