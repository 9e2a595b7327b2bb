-- How the parts of a function are read.
use Rattle.std.specs.Prelude.{ℕ, Bool, not, List, [], ◌∷◌, Option, Ok, nat_lt, nat_le, nat_eq, ◌==◌, if◌then◌else◌}
use Rattle.std.specs.Int.{w16, w32}
use Rattle.std.specs.List.{list_any, list_all}
use Rattle.lang_base.specs.declared.errors.FormError.TheVariants.{NotCanonical, TooLarge}
use Rattle.lang_base.specs.Reading.{Reading, byte, number, made, tested, decoded, below, up_to, both, counted, Table, follow, unknown, optional}
use Rattle.ints.specs.Codes.{op_of_code, argument_count_of}
use Rattle.ints.specs.Conditions.{cond_of_code, cond_argument_count_of}
use Rattle.rtl_acts.specs.declared.arguments.Arguments.{Arguments}
use Rattle.rtl_acts.specs.declared.arguments.Arguments.TheVariants.{One, Two}
use Rattle.rtl_acts.specs.declared.act.Act.{Act}
use Rattle.rtl_acts.specs.declared.act.Act.TheVariants.{Nop, Constant, Move, Operate, Load, Store, Put}
use Rattle.rtl_acts.specs.declared.test.Test.{Test}
use Rattle.machine.specs.Limits.{global}
use Rattle.rtl_acts.specs.Fits.{parameter_limit, register_limit}

-- one of so many registers
unfoldable pub register : ℕ → Reading ℕ
register registers bytes = below registers (number w16) bytes

-- a register, or none
unfoldable pub target : ℕ → Reading (Option ℕ)
target registers bytes = optional (register registers) bytes

-- one register, or two
unfoldable pub arguments : ℕ → ℕ → Reading Arguments
arguments registers count bytes = if count == 1 then made (λ a. One a) (register registers) bytes else made (λ p. Two p.0 p.1) (both (register registers) (λ a. register registers)) bytes

-- a condition, and as many registers as it takes
unfoldable pub asked : ℕ → Reading Test
asked registers bytes = made (λ p. record { condition = p.0; arguments = p.1 }) (both (decoded cond_of_code byte) (λ condition. arguments registers (cond_argument_count_of condition))) bytes

-- ---- plain instructions

-- there is nothing behind the code
abbrev pub nop : Reading Act
nop bytes = Ok (Nop, bytes)

unfoldable pub constant : ℕ → Reading Act
constant registers bytes = made (λ p. Constant p.0 p.1) (both (register registers) (λ target. number w32)) bytes

unfoldable pub copying : ℕ → Reading Act
copying registers bytes = made (λ p. Move p.0 p.1) (both (register registers) (λ target. register registers)) bytes

-- an operator, the target, and as many registers as it takes
unfoldable pub operation : ℕ → Reading Act
operation registers bytes = made (λ p. Operate p.0 p.1.0 p.1.1) (both (decoded op_of_code byte) (λ op. both (register registers) (λ target. arguments registers (argument_count_of op)))) bytes

unfoldable pub load : ℕ → Reading Act
load registers bytes = made (λ p. Load p.0 p.1.0 p.1.1) (both (register registers) (λ target. both global (λ g. register registers))) bytes

unfoldable pub store : ℕ → Reading Act
store registers bytes = made (λ p. Store p.0 p.1.0 p.1.1) (both global (λ g. both (register registers) (λ index. register registers))) bytes

unfoldable pub put : ℕ → Reading Act
put registers bytes = made (λ p. Put p.0 p.1) (both (register registers) (λ source. target registers)) bytes

-- plain instructions by their codes
abbrev pub acts : ℕ → Table Act
acts registers =
    (0, nop) ∷
    (1, constant registers) ∷
    (2, copying registers) ∷
    (3, operation registers) ∷
    (4, load registers) ∷
    (5, store registers) ∷
    (7, put registers) ∷ []

unfoldable pub act : ℕ → ℕ → Reading Act
act registers code bytes = follow (acts registers) unknown code bytes

-- ---- the registers of the parameters

-- a register that is none of those before it; the registers are counted behind it
unfoldable pub parameter : List ℕ → Reading ℕ
parameter before bytes = tested (λ r. not (list_any (λ k. nat_eq k r) before)) NotCanonical (number w16) bytes

unfoldable pub parameters : Reading (List ℕ)
parameters bytes = counted (up_to parameter_limit byte) parameter bytes

abbrev pub lies_within : ℕ → ℕ → Bool
lies_within count r = nat_lt r count

-- the parameters and the number of registers: a parameter beyond it is the earlier fault
unfoldable pub frame : Reading (List ℕ × ℕ)
frame bytes = tested (λ f. nat_le f.1 register_limit) TooLarge (tested (λ f. list_all (lies_within f.1) f.0) NotCanonical (both parameters (λ ps. number w16))) bytes
