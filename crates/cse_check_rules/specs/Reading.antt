-- How an equation is read.
use Rattle.std.specs.Prelude.{ℕ, [], ◌∷◌}
use Rattle.lang_base.specs.Reading.{Reading, byte, made, decoded, both, Table, follow, unknown, coded}
use Rattle.ints.specs.Codes.{op_of_code, argument_count_of}
use Rattle.lang_helpers.specs.Limits.{global}
use Rattle.rtl_acts.specs.Reading.{register, arguments}
use Rattle.cse_check_rules.specs.declared.equation.RightSide.{RightSide}
use Rattle.cse_check_rules.specs.declared.equation.RightSide.TheVariants.{Operation, Cell, Copy}
use Rattle.cse_check_rules.specs.declared.equation.Equation.{Equation}

-- an operator, and as many registers as it takes
unfoldable pub operation : ℕ → Reading RightSide
operation registers bytes = made (λ p. Operation p.0 p.1) (both (decoded op_of_code byte) (λ op. arguments registers (argument_count_of op))) bytes

unfoldable pub cell : ℕ → Reading RightSide
cell registers bytes = made (λ p. Cell p.0 p.1) (both global (λ g. register registers)) bytes

unfoldable pub copying : ℕ → Reading RightSide
copying registers bytes = made (λ r. Copy r) (register registers) bytes

-- right sides by their codes
abbrev pub rights : ℕ → Table RightSide
rights registers = (0, operation registers) ∷ (1, cell registers) ∷ (2, copying registers) ∷ []

unfoldable pub right : ℕ → Reading RightSide
right registers bytes = coded (follow (rights registers) unknown) bytes

-- one of so many registers, and a right side
unfoldable pub equation : ℕ → Reading Equation
equation registers bytes = made (λ p. record { register = p.0; right = p.1 }) (both (register registers) (λ r. right registers)) bytes
