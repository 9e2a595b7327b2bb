-- How equations are read.
use Rattle.std.specs.Prelude.{ℕ}
use Rattle.lang_base.specs.Reading.{Reading, made, both}
use Rattle.locations.specs.Reading.{location}
use Rattle.rtl_acts.specs.Reading.{register}
use Rattle.alloc_check_rules.specs.declared.equation.Equation.{Equation}

-- one of so many registers, and a location among so many slots
unfoldable pub equation : ℕ → ℕ → Reading Equation
equation registers slots bytes = made (λ p. record { register = p.0; location = p.1 }) (both (register registers) (λ r. location slots)) bytes
