-- The end of a division.
use Rattle.std.specs.Prelude.{ℕ, Bool, [], ◌∷◌, ◌++◌}
use Rattle.x86_syntax.specs.declared.instruction.Instruction.TheVariants.{Copy}
use Rattle.native_lowering_definition.specs.Locations.{register_of}
use Rattle.native_lowering_definition.specs.Operating.{Block, divided_in, divides_by_ecx}

-- D becomes the quotient of A and ecx, or the rest
abbrev pub divided : Bool → Bool → ℕ → ℕ → Block
divided signed quotient d a = divides_by_ecx signed a ++ Copy (register_of d) (divided_in quotient) ∷ []
