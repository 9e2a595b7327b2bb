-- Where a label stands, from a place on.
use Rattle.std.proofs.Common.{◌≡◌, ℕ, ◌+◌, List, drop}
use Rattle.std.specs.Option.{option_map}
use Rattle.x86_syntax.specs.Labels.{place_of}
use Rattle.x86_syntax.specs.declared.instruction.Instruction.{Instruction}

-- the place of the label is among the rest
pub record IsBehind (label place : ℕ) (code : List Instruction) : Type 0 where
  pub rest : place_of label code ≡ option_map (λ j. place + j) (place_of label (drop place code))
