-- Where equations stand in the order of a list, by numbers.
use Rattle.std.specs.Prelude.{ℕ, ◌+◌, ◌*◌}
use Rattle.locations.specs.declared.location.Location.{Location}
use Rattle.locations.specs.declared.location.Location.TheVariants.{InRegister, InSlot}
use Rattle.alloc_check_rules.specs.declared.equation.Equation.{Equation}

-- registers are below slots
abbrev pub location_rank : Location → ℕ
location_rank (InRegister r) = r
location_rank (InSlot s) = s + 65536

abbrev pub rank : Equation → ℕ
rank e = e.register * 131072 + location_rank e.location
