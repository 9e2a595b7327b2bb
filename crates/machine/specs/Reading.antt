-- How the parts that LTL and Linear share are read.
use Rattle.std.specs.Prelude.{ℕ, [], ◌∷◌, ◌==◌, if◌then◌else◌}
use Rattle.std.specs.Int.{w32}
use Rattle.lang_base.specs.Reading.{Reading, byte, number, made, decoded, both, Table, follow, unknown}
use Rattle.ints.specs.Codes.{op_of_code, argument_count_of}
use Rattle.ints.specs.Conditions.{cond_of_code, cond_argument_count_of}
use Rattle.locations.specs.Reading.{register, value}
use Rattle.machine.specs.declared.arguments.Arguments.{Arguments}
use Rattle.machine.specs.declared.arguments.Arguments.TheVariants.{One, Two}
use Rattle.machine.specs.declared.act.Act.{Act}
use Rattle.machine.specs.declared.act.Act.TheVariants.{Constant, Operate, Load, Store, Put}
use Rattle.machine.specs.declared.test.Test.{Test}
use Rattle.locations.specs.Limits.{global}
unfoldable pub use Rattle.locations.specs.Reading.{register, value, location, one_move, moves, call, frame}

-- one register, or two
unfoldable pub arguments : ℕ → Reading Arguments
arguments count bytes = if count == 1 then made (λ a. One a) register bytes else made (λ p. Two p.0 p.1) (both register (λ a. register)) bytes

-- a condition, and as many registers as it takes
unfoldable pub asked : Reading Test
asked bytes = made (λ p. record { condition = p.0; arguments = p.1 }) (both (decoded cond_of_code byte) (λ condition. arguments (cond_argument_count_of condition))) bytes

-- ---- plain instructions

unfoldable pub constant : Reading Act
constant bytes = made (λ p. Constant p.0 p.1) (both register (λ target. number w32)) bytes

-- an operator, the target, and as many registers as it takes
unfoldable pub operation : Reading Act
operation bytes = made (λ p. Operate p.0 p.1.0 p.1.1) (both (decoded op_of_code byte) (λ op. both register (λ target. arguments (argument_count_of op)))) bytes

unfoldable pub load : Reading Act
load bytes = made (λ p. Load p.0 p.1.0 p.1.1) (both register (λ target. both global (λ g. register))) bytes

unfoldable pub store : Reading Act
store bytes = made (λ p. Store p.0 p.1.0 p.1.1) (both global (λ g. both register (λ index. register))) bytes

unfoldable pub put : Reading Act
put bytes = made (λ p. Put p.0 p.1) (both register (λ source. value)) bytes

-- plain instructions by their codes
abbrev pub acts : Table Act
acts = (1, constant) ∷ (3, operation) ∷ (4, load) ∷ (5, store) ∷ (7, put) ∷ []

unfoldable pub act : ℕ → Reading Act
act code bytes = follow acts unknown code bytes
